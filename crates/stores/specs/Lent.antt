-- What a change makes of the stores that a run works on.
use Rattle.std.specs.Prelude.{◌≡◌, Bool, Result}
use Rattle.std.proofs.Math.Option.{Option}
use Rattle.rules.specs.declared.Value.{Value}
use Rattle.rules.specs.declared.Refused.{Refused}
use Rattle.rules.specs.Building.{Made}
use Rattle.rules.specs.Store.{Store}
use Rattle.stores.specs.declared.lent.Shared.{Shared}
use Rattle.stores.specs.declared.lent.Stores.{Stores}
use Rattle.stores.specs.Stores.{store_of, Became, Tried, Makes}

-- they are the very slices that were lent, so that whoever lent them knows what they hold afterwards
abbrev pub SameSlices : Stores → Stores → Type 0
SameSlices s s' = (s'.words.ghost_name ≡ s.words.ghost_name) × (s'.bytes.ghost_name ≡ s.bytes.ghost_name)

-- the store of the rules that they stand for
abbrev pub seen : Stores → Store
seen s = store_of s.run s.words.now s.bytes.now

-- the same of shared loans
abbrev pub seen_in : Shared → Store
seen_in s = store_of s.run.now s.words.now s.bytes.now

abbrev pub StoresBecame : (Store → Store) → Stores → Stores → Type 0
StoresBecame f s s' = Became f s.run s.words.now s.bytes.now s'.run s'.words.now s'.bytes.now

abbrev pub StoresTried : Bool → (Store → Option Store) → Stores → Stores → Type 0
StoresTried r f s s' = Tried r f s.run s.words.now s.bytes.now s'.run s'.words.now s'.bytes.now

abbrev pub StoresMade : Result Value Refused → (Store → Made) → Stores → Stores → Type 0
StoresMade r f s s' = Makes r f s.run s.words.now s.bytes.now s'.run s'.words.now s'.bytes.now
