use Rattle.building.proofs.ObjectLaws.{Entering}
use Rattle.building.proofs.put_entries.Given as goal

abbrev pub invariant-loop-at : goal.invariant-loop-at
invariant-loop-at l = Entering l.image.bytes.now l.image.header l.n l.head l.from l.to l.fn.words l.words l.end l.at l.i
