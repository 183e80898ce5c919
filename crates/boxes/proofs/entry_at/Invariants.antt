-- The search is that of the cells from `i` on.
use Rattle.boxes.proofs.FieldLaws.{LeftFrom}
use Rattle.boxes.proofs.entry_at.Given as goal

abbrev pub invariant-loop-i : goal.invariant-loop-i
invariant-loop-i l = LeftFrom l.image.bytes.now l.image.header l.owner l.key l.stores.run.now l.stores.words.now l.i
