-- `rebind_some` and `rebind_none`.
use Rattle.bindings.proofs.ScopeLaws.{rebind_some, rebind_none}
use Rattle.bindings.proofs.rebind.Goals as goal

pub returns-then-i-stores-clause-store : goal.returns-then-i-stores-clause-store
returns-then-i-stores-clause-store c = rebind_some _ _ _ _ _ c.args.stores.now.fits c.if-i-stores.true c.put_slot.ensures _

pub returns-else-i-stores-clause-store : goal.returns-else-i-stores-clause-store
returns-else-i-stores-clause-store c = rebind_none _ _ _ _ c.args.stores.now.fits c.if-i-stores.false _
