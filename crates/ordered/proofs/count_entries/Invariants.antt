-- What is counted, with the entries from `i` on, is all.
use Prim.Native.Nat.{◌≤◌}
use Rattle.ordered.proofs.WordLaws.{CountTo}
use Rattle.ordered.proofs.count_entries.Given as goal

abbrev pub invariant-loop-i : goal.invariant-loop-i
invariant-loop-i l = (l.count ≤ l.i) × CountTo l.stores.run.now l.stores.words.now l.owner l.i l.count
