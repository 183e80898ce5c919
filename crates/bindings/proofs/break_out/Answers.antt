-- `became_then` and `became_scope`.
use Rattle.stores.proofs.Chains.{became_then, became_scope}
use Rattle.bindings.proofs.break_out.Goals as goal

pub returns-clause-store : goal.returns-clause-store
returns-clause-store c = became_then c.keep.ensures.store (became_scope _ _ _ _ c.keep.ensures.store.kept.fits)
