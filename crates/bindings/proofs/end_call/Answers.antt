-- `became_then` and `became_floor`.
use Rattle.stores.proofs.Chains.{became_then, became_floor}
use Rattle.bindings.proofs.end_call.Goals as goal

pub returns-clause-store : goal.returns-clause-store
returns-clause-store c = became_then (became_then c.close.ensures.store (became_floor _ _ _ _ c.close.ensures.store.kept.fits)) c.drop_pending.ensures.store
