-- The bytes passed are written (`one_more`).
use Rattle.std.proofs.Common.{List, ℕ, refl, rules, arith}
use Rattle.printing.specs.Page.{with_bytes}
use Rattle.printing.specs.Shown.{shown}
use Rattle.printing.proofs.Pages.{one_more}
use Rattle.printing.proofs.Page.bytes.Goals as goal

pub loop-b-init : goal.loop-b-init
unfolding with_bytes
loop-b-init c = (refl, refl)

pub loop-b-preserved : goal.loop-b-preserved
unfolding with_bytes
loop-b-preserved c =
    let l = c.loop-b in
    (search rules, one_more (λ (t : List ℕ). t) c.args.text.now (λ s t. refl) (shown c.args.self.now) (shown l.self) (shown c.byte.new.self) l.b-index (omega arith) l.invariant.1 c.byte.ensures.value)
