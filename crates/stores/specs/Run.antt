-- The run's numbers with one of them another.
use Rattle.std.specs.Prelude.{ℕ}
use Rattle.stores.specs.declared.run.Run.{Run}

abbrev pub set_takes : Run → ℕ → Run
set_takes run x = record { takes = x; bound = run.bound; scope = run.scope; floor = run.floor; pending = run.pending; cells = run.cells; text = run.text }

abbrev pub set_bound : Run → ℕ → Run
set_bound run x = record { takes = run.takes; bound = x; scope = run.scope; floor = run.floor; pending = run.pending; cells = run.cells; text = run.text }

abbrev pub set_scope : Run → ℕ → Run
set_scope run x = record { takes = run.takes; bound = run.bound; scope = x; floor = run.floor; pending = run.pending; cells = run.cells; text = run.text }

abbrev pub set_floor : Run → ℕ → Run
set_floor run x = record { takes = run.takes; bound = run.bound; scope = run.scope; floor = x; pending = run.pending; cells = run.cells; text = run.text }

abbrev pub set_pending : Run → ℕ → Run
set_pending run x = record { takes = run.takes; bound = run.bound; scope = run.scope; floor = run.floor; pending = x; cells = run.cells; text = run.text }

abbrev pub set_cells : Run → ℕ → Run
set_cells run x = record { takes = run.takes; bound = run.bound; scope = run.scope; floor = run.floor; pending = run.pending; cells = x; text = run.text }

abbrev pub set_text : Run → ℕ → Run
set_text run x = record { takes = run.takes; bound = run.bound; scope = run.scope; floor = run.floor; pending = run.pending; cells = run.cells; text = x }
