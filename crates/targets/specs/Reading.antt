-- What targets give: the definitions of the rules on the store that stands in the words, whatever the text.
use Rattle.std.specs.Prelude.{ℕ, ◌≤◌, ◌≡◌, true, Result, Ok, Err, List, ℤ}
use Rattle.std.proofs.Math.Option.{Option, some, none}
use Rattle.packed.specs.declared.layout.Header.{Header}
use Rattle.kinds.specs.declared.Class.TheVariants.{Target}
use Rattle.packed.specs.Layout.{node_at}
use Rattle.kinds.specs.Kinds.{is_of}
use Rattle.image.specs.Load.{load_of}
use Rattle.numbers.specs.declared.OpError.{OpError}
use Rattle.numbers.specs.declared.OpError.TheVariants.{Arithmetic as ArithmeticError, NotConst, Unlisted}
use Rattle.numbers.specs.Ints.{assign_of}
use Rattle.rules.specs.declared.Value.{Value}
use Rattle.rules.specs.declared.Value.TheVariants.{Signed}
use Rattle.rules.specs.declared.Refusal.TheVariants.{Arithmetic, Operands}
use Rattle.rules.specs.declared.Refused.{Refused}
use Rattle.rules.specs.declared.Place.{Place}
use Rattle.rules.specs.declared.Place.TheVariants.{Binding, Cell, Absent}
use Rattle.rules.specs.Store.{Store, as_signed, rebound, stored_at}
use Rattle.rules.specs.Targets.{Wrote, done, refused, set_place}
use Rattle.stores.specs.Stores.{store_of, Kept}
use Rattle.stores.specs.declared.run.Run.{Run}
use Rattle.stores.specs.declared.lent.Stores.{Stores}

-- a target of an image that loads
pub record IsTarget (image : List ℕ) (h : Header) (t : ℕ) : Type 0 where
  pub loaded : load_of image ≡ Ok h
  pub first : 1 ≤ t
  pub last : t ≤ h.nodes
  pub target : is_of Target (node_at image h t).kind ≡ true

-- a place, and a value that is got
pub record Placed (r : Result Place Refused) (f : Store → Result Place Refused) (run : Run) (words : List ℕ) : Type 0 where
  pub is : (bytes : List ℕ) → r ≡ f (store_of run words bytes)

pub record Gets (r : Result Value Refused) (f : Store → Result Value Refused) (run : Run) (words : List ℕ) : Type 0 where
  pub is : (bytes : List ℕ) → r ≡ f (store_of run words bytes)

-- what an assignment puts: "both must be signed, else 19"; 16 to 18 stand at the assign, node n
abbrev pub computed : ℕ → Result ℤ OpError → Result Value Refused
computed n (Ok z) = Ok (Signed z)
computed n (Err (ArithmeticError why)) = Err (record { why = Arithmetic why; place = n })
computed n (Err NotConst) = Err (record { why = Operands; place = n })
computed n (Err Unlisted) = Err (record { why = Operands; place = n })

abbrev pub assigned_of : ℕ → ℕ → Option ℤ → Option ℤ → Result Value Refused
assigned_of n op none y = Err (record { why = Operands; place = n })
assigned_of n op (some x) none = Err (record { why = Operands; place = n })
assigned_of n op (some x) (some y) = computed n (assign_of op x y)

abbrev pub assigned_value : ℕ → ℕ → Value → Value → Result Value Refused
assigned_value n op old v = assigned_of n op (as_signed old) (as_signed v)

-- a value put at a place; an absent field has no cell
abbrev pub put_in : Place → Value → Store → Store
put_in (Binding i) v σ = rebound σ i v
put_in (Cell i) v σ = stored_at σ i v
put_in (Absent owner) v σ = σ

-- "a field that is absent is entered", or 8 at the target
abbrev pub field_set : List ℕ → Header → ℕ → ℕ → Value → Store → Wrote
field_set image h t owner v σ = set_place image h σ t v (Ok (Absent owner))

-- a write, or a refusal, which leaves the store as it was
abbrev pub wrote_by : Result (Unit {0}) Refused → Store → Wrote
wrote_by (Ok done_so) σ = done σ
wrote_by (Err e) σ = refused e.why e.place

pub record Writes (r : Result (Unit {0}) Refused) (f : Store → Wrote) (run : Run) (words bytes : List ℕ) (run' : Run) (words' bytes' : List ℕ) : Type 0 where
  pub did : f (store_of run words bytes) ≡ wrote_by r (store_of run' words' bytes')
  pub undone : (e : Refused) → r ≡ Err e → store_of run' words' bytes' ≡ store_of run words bytes
  pub kept : Kept run bytes run' words' bytes'

abbrev pub StoresWrote : Result (Unit {0}) Refused → (Store → Wrote) → Stores → Stores → Type 0
StoresWrote r f s s' = Writes r f s.run s.words.now s.bytes.now s'.run s'.words.now s'.bytes.now
