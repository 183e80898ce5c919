-- `enter_full` and `enter_made`.
use native.Mathlib.Omega.{arith}
use Rattle.boxes.proofs.CellLaws.{enter_full, enter_made}
use Rattle.boxes.proofs.enter_field.Goals as goal

pub returns-then-cells-ge-MOST_CELLS-clause-store : goal.returns-then-cells-ge-MOST_CELLS-clause-store
returns-then-cells-ge-MOST_CELLS-clause-store c = enter_full _ _ _ _ _ c.args.stores.now.fits (omega arith) _

pub returns-clause-store : goal.returns-clause-store
returns-clause-store c = enter_made _ _ _ _ _ c.args.stores.now.fits _ (omega arith) c.put_slot.ensures _
