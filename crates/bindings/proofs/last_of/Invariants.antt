-- The last up to number `to` is the last up to number `i`.
use Rattle.bindings.proofs.ScopeLaws.{Among}
use Rattle.bindings.proofs.last_of.Given as goal

abbrev pub invariant-loop-i : goal.invariant-loop-i
invariant-loop-i l = Among l.words l.name l.from l.to l.i
