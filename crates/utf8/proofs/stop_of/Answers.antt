-- Where no character starts they stop, and past one they stop where those after it do.
use Rattle.std.proofs.Common.{◌∙◌, sym, refl, arith}
use Rattle.utf8.proofs.Chars.{char_within}
use Rattle.utf8.proofs.Runs.{stop_past, stop_here, stop_on}
use Rattle.utf8.proofs.stop_of.Goals as goal

pub returns-in_default : goal.returns-in_default
returns-in_default c = sym (c.loop-at.invariant ∙ stop_here _ _ 0 c.loop-at-test.true (sym c.in_default.ensures) refl)

pub overflow_add-at : goal.overflow_add-at
overflow_add-at c = omega (arith, char_within _ _ _ c.loop-at-test.true c.in-Some.ensures.0)

pub loop-at-preserved : goal.loop-at-preserved
loop-at-preserved c = c.loop-at.invariant ∙ stop_on _ _ _ c.loop-at-test.true c.in-Some.ensures.0 c.in-Some.ensures.1

pub returns : goal.returns
returns c = sym (c.loop-at.invariant ∙ stop_past _ _ c.loop-at-test.false)
