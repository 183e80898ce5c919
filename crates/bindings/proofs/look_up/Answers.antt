-- What `last_of` gives, from the floor on.
use Rattle.stores.specs.Stores.{store_of}
use Rattle.bindings.proofs.look_up.Goals as goal

pub returns : goal.returns
unfolding store_of
returns c = record { is = λ bytes. c.last_of.ensures }
