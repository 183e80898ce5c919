-- `after_none` and `after_one`.
use Rattle.ordered.proofs.WordLaws.{after_none, after_one}
use Rattle.ordered.proofs.is_after.Goals as goal

pub returns-in_default : goal.returns-in_default
returns-in_default c = rw c.in_default.is (after_none _ _ _ _ _)

pub returns : goal.returns
returns c = rw c.in-Some.is (after_one _ _ _ _ _ _ _ c.precedes.ensures)
