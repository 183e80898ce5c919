-- `bound_some` and `bound_none`.
use Rattle.bindings.proofs.ScopeLaws.{bound_some, bound_none}
use Rattle.bindings.proofs.bound_at.Goals as goal

pub returns-then-i-stores : goal.returns-then-i-stores
returns-then-i-stores c = bound_some _ _ _ _ c.if-i-stores.true c.value_of.ensures

pub returns : goal.returns
returns c = bound_none _ _ _ c.if-i-stores.false
