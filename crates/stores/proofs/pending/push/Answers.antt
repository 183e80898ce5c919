-- `push_full` and `push_made`.
use Rattle.stores.proofs.PendingLaws.{push_full, push_made}
use Rattle.stores.proofs.pending.push.Goals as goal

pub returns-then-count-ge-MOST_PENDING-clause-store : goal.returns-then-count-ge-MOST_PENDING-clause-store
returns-then-count-ge-MOST_PENDING-clause-store c = push_full _ _ _ c.args.stores.now.fits c.if-count-ge-MOST_PENDING.true _

pub returns-clause-store : goal.returns-clause-store
returns-clause-store c = push_made _ _ _ _ c.args.stores.now.fits c.if-count-ge-MOST_PENDING.false c.put_slot.ensures _
