-- `take-full` and `take-made`.
use native.Mathlib.Omega.{arith}
use Rattle.boxes.proofs.ItemLaws.{take-full, take-made}
use Rattle.boxes.proofs.take_items.Goals as goal

pub returns-then-head-count-gt-MOST_CELLS-clause-store : goal.returns-then-head-count-gt-MOST_CELLS-clause-store
returns-then-head-count-gt-MOST_CELLS-clause-store c = take-full _ _ _ _ c.args.stores.now.fits c.pending_since-count.ensures (omega arith) _

pub returns-clause-store : goal.returns-clause-store
returns-clause-store c =
    take-made _ _ _ _
    c.args.stores.now.fits
    c.pending_since-count.ensures
    _ _ _ _ _
    (omega arith)
    (rw c.put_head.ensures at c.copy_items.ensures)
    c.drop_pending.ensures.store
