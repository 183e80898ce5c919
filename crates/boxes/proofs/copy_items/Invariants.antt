use Rattle.boxes.specs.Cells.{CopiedItems}
use Rattle.boxes.proofs.copy_items.Given as goal

abbrev pub invariant-loop-n : goal.invariant-loop-n
invariant-loop-n l = CopiedItems l.head l.from l.n l.fn.words l.words
