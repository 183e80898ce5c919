-- The digits of the bytes passed are written (`one_more`).
use Rattle.std.proofs.Common.{refl, rules, arith}
use Rattle.printing.specs.Page.{with_bytes, hex_of}
use Rattle.printing.specs.Shown.{shown}
use Rattle.printing.proofs.Pages.{hex_in_two, one_more}
use Rattle.printing.proofs.Page.hex_bytes.Goals as goal

pub loop-b-init : goal.loop-b-init
unfolding with_bytes hex_of
loop-b-init c = (refl, refl)

pub loop-b-preserved : goal.loop-b-preserved
loop-b-preserved c =
    let l = c.loop-b in
    (search rules, one_more hex_of c.args.text.now hex_in_two (shown c.args.self.now) (shown l.self) (shown c.hex_byte.new.self) l.b-index (omega arith) l.invariant.1 c.hex_byte.ensures.value)
