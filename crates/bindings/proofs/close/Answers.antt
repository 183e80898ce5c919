-- What `break_out` leaves, at the scope's number.
use mathlib.Core.Path.{refl}
use Rattle.rules.specs.Store.{closed}
use Rattle.stores.specs.Stores.{store_of}
use Rattle.stores.proofs.Chains.{became_as}
use Rattle.bindings.proofs.close.Goals as goal

pub returns-clause-store : goal.returns-clause-store
unfolding store_of
returns-clause-store c = became_as _ (closed _) refl c.break_out.ensures.store
