use Rattle.std.proofs.Common.{◌≡◌, take}
use Rattle.printing.specs.Page.{with_bytes}
use Rattle.printing.specs.Shown.{shown}
use Rattle.printing.proofs.Page.bytes.Given as goal

abbrev pub invariant-loop-b : goal.invariant-loop-b
invariant-loop-b l = (l.self.all.ghost_name ≡ l.initial.self.all.ghost_name) × (shown l.self ≡ with_bytes (shown l.initial.self) (take l.b-index l.text))
