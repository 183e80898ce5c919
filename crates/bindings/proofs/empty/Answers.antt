-- What `keep` leaves, at the scope's number.
use mathlib.Core.Path.{refl}
use Rattle.rules.specs.Store.{emptied}
use Rattle.stores.specs.Stores.{store_of}
use Rattle.stores.proofs.Chains.{became_as}
use Rattle.bindings.proofs.empty.Goals as goal

pub returns-clause-store : goal.returns-clause-store
unfolding store_of
returns-clause-store c = became_as _ emptied refl c.keep.ensures.store
