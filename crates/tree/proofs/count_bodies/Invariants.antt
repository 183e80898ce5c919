-- The bodies of the functions so far are counted, in both arrays.
use Rattle.tree.specs.Tree.{bodies, Added}
use Rattle.tree.proofs.count_bodies.Given as goal

abbrev pub invariant-loop-f : goal.invariant-loop-f
invariant-loop-f l = Added l.fn.names l.names (bodies l.image.bytes.now l.f) × Added l.fn.bodies l.bodies (bodies l.image.bytes.now l.f)
