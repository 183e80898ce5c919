-- `last_found`, `last_passed` and `last_nowhere`.
use Rattle.bindings.proofs.ScopeLaws.{last_found, last_passed, last_nowhere}
use Rattle.bindings.proofs.last_of.Goals as goal

pub returns-then-words-i : goal.returns-then-words-i
returns-then-words-i c = last_found _ _ _ _ _ c.loop-i-test.true c.loop-i.invariant c.if-words-i.true

pub loop-i-preserved : goal.loop-i-preserved
loop-i-preserved c = last_passed _ _ _ _ _ c.loop-i-test.true c.loop-i.invariant c.if-words-i.false

pub returns : goal.returns
returns c = last_nowhere _ _ _ _ _ c.loop-i-test.false c.loop-i.invariant
