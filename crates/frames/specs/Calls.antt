-- A call's body, entered from where all its arguments are there, at any depth.
use Rattle.std.specs.Prelude.{ℕ, ◌+◌, List, [], ◌∷◌}
use Rattle.packed.specs.declared.layout.Header.{Header}
use Rattle.packed.specs.Layout.{function_at, node_at}
use Rattle.rules.specs.Machine.{enter, items, call_of}
use Rattle.stores.specs.Stores.{scope_of, floor_of}
use Rattle.outcomes.specs.declared.Outcome.{Outcome}
use Rattle.std.specs.declared.ops.ControlFlow.{ControlFlow}
use Rattle.outcomes.specs.Post.{Advance}
use Rattle.stores.specs.declared.run.Run.{Run}
use Rattle.stores.specs.declared.lent.Stores.{Stores}

abbrev pub CallEnters : List ℕ → Header → ℕ → ℕ → Run → List ℕ → List ℕ → Run → List ℕ → List ℕ → ControlFlow Outcome (Unit {0}) → Type 0
CallEnters image h n from run words bytes run' words' bytes' r =
    (d : ℕ) → Advance image h (items n 0 d from) []
    (enter (function_at image (node_at image h n).tag).body (d + 1)) (call_of (scope_of run) (floor_of run) from ∷ []) run words bytes run' words' bytes' r

abbrev pub CallEntered : List ℕ → Header → ℕ → ℕ → Stores → Stores → ControlFlow Outcome (Unit {0}) → Type 0
CallEntered image h n from s s' r = CallEnters image h n from s.run s.words.now s.bytes.now s'.run s'.words.now s'.bytes.now r
