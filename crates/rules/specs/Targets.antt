-- Targets: reading, setting and assigning through names, fields and indexes (01 'Evaluation', "Set and assign").
use Rattle.std.specs.Prelude.{Result, Ok, Err, ℕ, zero, suc, cond, List, [], ◌∷◌, eqb, ℤ}
use Rattle.std.proofs.Math.Option.{Option, some, none}
use Rattle.packed.specs.declared.layout.Header.{Header}
use Rattle.packed.specs.Layout.{node_at, literal_at}
use Rattle.numbers.specs.declared.OpError.{OpError}
use Rattle.numbers.specs.declared.OpError.TheVariants.{Arithmetic as OArithmetic, NotConst as ONotConst, Unlisted}
use Rattle.numbers.specs.Ints.{assign_of}
use Rattle.rules.specs.declared.Value.{Value}
use Rattle.rules.specs.declared.Value.TheVariants.{Signed}
use Rattle.rules.specs.declared.Refusal.{Refusal}
use Rattle.rules.specs.declared.Refusal.TheVariants.{Cells, Arithmetic, Operands, MissingName, MissingField, MissingIndex, ExpectedType}
use Rattle.rules.specs.declared.Refused.{Refused}
use Rattle.rules.specs.declared.Place.{Place}
use Rattle.rules.specs.declared.Place.TheVariants.{Binding, Cell, Absent}
use Rattle.rules.specs.Store.{Store, entry, sought, bound_at, rebound, field_at, item_at, cell_at, stored_at, taken_cells, as_signed, as_object, as_items}

-- what a write leaves
pub data Wrote : Type 0 where
  done : Store → Wrote
  refused : Refusal → ℕ → Wrote

-- a refusal with its place
abbrev pub refusing : Refusal → ℕ → Refused
refusing why place = record { why = why; place = place }

-- ---- names, fields and indexes; `at` is the place of a refusal

abbrev pub name_place : ℕ → Option ℕ → Result Place Refused
name_place at none = Err (refusing MissingName at)
name_place at (some i) = Ok (Binding i)

abbrev pub field_in : ℕ → Option ℕ → Result Place Refused
field_in owner none = Ok (Absent owner)
field_in owner (some i) = Ok (Cell i)

-- "an absent index is 22, for set too"
abbrev pub index_in : ℕ → Option ℕ → Result Place Refused
index_in at none = Err (refusing MissingIndex at)
index_in at (some i) = Ok (Cell i)

-- "an index of anything but vec or tuple is 23"
abbrev pub index_place : Store → ℕ → ℕ → Option ℕ → Result Place Refused
index_place σ at index none = Err (refusing ExpectedType at)
index_place σ at index (some owner) = index_in at (item_at σ owner index)

-- "reading an absent field is 21"
abbrev pub read_at : Store → ℕ → Result Place Refused → Result Value Refused
read_at σ at (Ok (Binding i)) = Ok (bound_at σ i)
read_at σ at (Ok (Cell i)) = Ok (cell_at σ i)
read_at σ at (Ok (Absent owner)) = Err (refusing MissingField at)
read_at σ at (Err r) = Err r

abbrev pub after_read : Result Value Refused → (Value → Result Value Refused) → Result Value Refused
after_read (Ok v) on = on v
after_read (Err r) on = Err r

-- ---- what a write comes to

-- "Set puts any value; a field that is absent is entered", which takes a cell
abbrev pub entered_in : ℕ → Option Store → Wrote
entered_in t none = refused Cells t
entered_in t (some σ) = done σ

-- "For assign both must be signed, else 19"; 16 to 18 stand at the assign, node n
abbrev pub assigned : ℕ → (Value → Store) → Result ℤ OpError → Wrote
assigned n put (Ok z) = done (put (Signed z))
assigned n put (Err (OArithmetic why)) = refused (Arithmetic why) n
assigned n put (Err ONotConst) = refused Operands n
assigned n put (Err Unlisted) = refused Operands n

abbrev pub assign_to : ℕ → ℕ → (Value → Store) → Option ℤ → Option ℤ → Wrote
assign_to n op put none y = refused Operands n
assign_to n op put (some x) none = refused Operands n
assign_to n op put (some x) (some y) = assigned n put (assign_of op x y)

module _ (image : List ℕ) (h : Header) (σ : Store) where
  -- the field whose key is literal l, of what stands before it: "A field of a non-object is 23"
  abbrev pub field_place : ℕ → ℕ → Option ℕ → Result Place Refused
  field_place at l none = Err (refusing ExpectedType at)
  field_place at l (some owner) = field_in owner (field_at image h σ owner l)

  -- the target at node t, of at most so many parts and a name; a loaded image has no longer one than 64.
  -- "21–23: own target; for a field being read, its a"
  unfoldable pub read_target : ℕ → ℕ → Result Value Refused
  read_target zero t = Err (refusing ExpectedType t)
  read_target (suc most) t =
      cond (eqb (node_at image h t).kind 21) (read_at σ t (name_place t (sought σ (node_at image h t).tag)))
      (after_read (read_target most (node_at image h t).a) (λ v.
      cond (eqb (node_at image h t).kind 22)
      (read_at σ (node_at image h t).a (field_place (node_at image h t).a (node_at image h t).b (as_object v)))
      (read_at σ t (index_place σ t (node_at image h t).b (as_items v)))))

  abbrev pub target_read : ℕ → Result Value Refused
  target_read t = read_target 65 t

  -- ---- a target being written: what stands before its last part is read

  abbrev pub part_place : ℕ → Result Value Refused → Result Place Refused
  part_place t (Err r) = Err r
  part_place t (Ok v) =
      cond (eqb (node_at image h t).kind 22) (field_place t (node_at image h t).b (as_object v))
      (index_place σ t (node_at image h t).b (as_items v))

  unfoldable pub target_place : ℕ → Result Place Refused
  target_place t =
      cond (eqb (node_at image h t).kind 21) (name_place t (sought σ (node_at image h t).tag))
      (part_place t (target_read (node_at image h t).a))

  abbrev pub set_place : ℕ → Value → Result Place Refused → Wrote
  set_place t v (Ok (Binding i)) = done (rebound σ i v)
  set_place t v (Ok (Cell i)) = done (stored_at σ i v)
  set_place t v (Ok (Absent owner)) = entered_in t (taken_cells σ (entry owner (literal_at image h (node_at image h t).b).payload v ∷ []))
  set_place t v (Err r) = refused r.why r.place

  unfoldable pub target_set : ℕ → Value → Wrote
  target_set t v = set_place t v (target_place t)

  abbrev pub assign_place : ℕ → ℕ → ℕ → Value → Result Place Refused → Wrote
  assign_place n op t v (Ok (Binding i)) = assign_to n op (rebound σ i) (as_signed (bound_at σ i)) (as_signed v)
  assign_place n op t v (Ok (Cell i)) = assign_to n op (stored_at σ i) (as_signed (cell_at σ i)) (as_signed v)
  assign_place n op t v (Ok (Absent owner)) = refused MissingField t
  assign_place n op t v (Err r) = refused r.why r.place

  unfoldable pub target_assigned : ℕ → ℕ → ℕ → Value → Wrote
  target_assigned n op t v = assign_place n op t v (target_place t)
