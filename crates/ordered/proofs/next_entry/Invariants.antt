-- The best so far is the next of the cells from `i` on.
use Prim.Native.Nat.{◌≤◌}
use Rattle.stores.specs.Stores.{cells_of}
use Rattle.ordered.proofs.WordLaws.{NextFrom}
use Rattle.ordered.proofs.next_entry.Given as goal

abbrev pub invariant-loop-i : goal.invariant-loop-i
invariant-loop-i l = (l.i ≤ cells_of l.stores.run.now) × NextFrom l.image.bytes.now l.image.header l.stores.run.now l.stores.words.now l.owner l.last l.i l.best
