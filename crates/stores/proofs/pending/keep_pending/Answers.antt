-- `fewer` and `enough`.
use native.Mathlib.Nat.{le_of_lt}
use Rattle.stores.proofs.Counted.{pending_counted, fewer, enough}
use Rattle.stores.proofs.pending.keep_pending.Goals as goal

pub returns-then-count-run : goal.returns-then-count-run
returns-then-count-run c = fewer pending_counted _ _ (le_of_lt c.if-count-run.true)

pub returns-else-count-run : goal.returns-else-count-run
returns-else-count-run c = enough pending_counted _ _ c.if-count-run.false
