-- `first_alone`, `first_here` and `first_there`.
use Rattle.ordered.proofs.WordLaws.{first_alone, first_here, first_there}
use Rattle.ordered.proofs.first_of.Goals as goal

pub returns-in_default : goal.returns-in_default
returns-in_default c = rw c.in_default.is (first_alone _ _ _ _ _)

pub returns-then-precedes : goal.returns-then-precedes
returns-then-precedes c = rw c.in-Some.is (first_here _ _ _ _ _ _ c.if-precedes.ensures)

pub returns : goal.returns
returns c = rw c.in-Some.is (first_there _ _ _ _ _ _ c.if-precedes.ensures)
