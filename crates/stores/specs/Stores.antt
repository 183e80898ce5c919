-- The store of the rules as it stands in the lent words and bytes, and what a change of it promises. docs/STORES.md has the layout as a table.
use Rattle.std.specs.Prelude.{ℕ, ◌/◌, ◌%◌, ◌≤◌, ◌≡◌, Bool, false, cond, List, Result, Ok, Err, eqb, length, get_or, take}
use Rattle.std.proofs.Math.Option.{Option, some, none}
use Rattle.rules.specs.declared.Value.{Value}
use Rattle.rules.specs.declared.Refused.{Refused}
use Rattle.rules.specs.Building.{Made, gives, refuses}
use Rattle.rules.specs.Store.{Cell, head, item, entry, Binding, Store, most_cells, most_text, most_bindings, most_pending}
use Rattle.slots.specs.Slot.{value_of}
use Rattle.stores.specs.View.{view}
use Rattle.stores.specs.declared.run.Run.{Run}

-- ---- the run's numbers

abbrev pub takes_of : Run → ℕ
takes_of run = run.takes

abbrev pub bound_of : Run → ℕ
bound_of run = run.bound

abbrev pub scope_of : Run → ℕ
scope_of run = run.scope

abbrev pub floor_of : Run → ℕ
floor_of run = run.floor

abbrev pub pending_of : Run → ℕ
pending_of run = run.pending

abbrev pub cells_of : Run → ℕ
cells_of run = run.cells

abbrev pub text_of : Run → ℕ
text_of run = run.text

-- ---- records in the words: a value is its payload and its kind; after them a binding has its name, and a cell four times its owner with what it is (0 a
-- head, whose payload is its count, 1 an item, 2 an entry), and an entry's key

abbrev pub slot_in : List ℕ → Value
slot_in ws = value_of (get_or ws 1 0) (get_or ws 0 0)

unfoldable pub binding_in : List ℕ → Binding
binding_in ws = record { name = get_or ws 2 0; value = slot_in ws }

unfoldable pub pending_in : List ℕ → Value
pending_in ws = slot_in ws

unfoldable pub cell_in : List ℕ → Cell
cell_in ws =
    cond (eqb (get_or ws 2 0 % 4) 0) (head (get_or ws 0 0))
    (cond (eqb (get_or ws 2 0 % 4) 1) (item (get_or ws 2 0 / 4) (slot_in ws)) (entry (get_or ws 2 0 / 4) (get_or ws 3 0) (slot_in ws)))

-- ---- the regions: 256 bindings, 512 pending items, 1,024 cells

unfoldable pub bindings_in : ℕ → List ℕ → List Binding
bindings_in n words = view binding_in 0 3 n words

unfoldable pub pendings_in : ℕ → List ℕ → List Value
pendings_in n words = view pending_in 768 2 n words

unfoldable pub cells_in : ℕ → List ℕ → List Cell
cells_in n words = view cell_in 1792 4 n words

unfoldable pub store_of : Run → List ℕ → List ℕ → Store
store_of run words bytes =
    record {
      cells = cells_in (cells_of run) words;
      text = take (text_of run) bytes;
      bindings = bindings_in (bound_of run) words;
      scope = scope_of run;
      floor = floor_of run;
      pending = pendings_in (pending_of run) words;
    }

-- ---- what every change keeps, and what it makes of the store

-- no region holds more than it has room for
pub record Fits (run : Run) (words : List ℕ) : Type 0 where
  pub words_length : 8192 ≤ length words
  pub bindings : bound_of run ≤ most_bindings
  pub pending : pending_of run ≤ most_pending
  pub cells : cells_of run ≤ most_cells
  pub text : text_of run ≤ most_text

pub record Kept (run : Run) (bytes : List ℕ) (run' : Run) (words' bytes' : List ℕ) : Type 0 where
  pub fits : Fits run' words'
  pub room : length bytes' ≡ length bytes
  pub takes : takes_of run' ≡ takes_of run

pub record Became (f : Store → Store) (run : Run) (words bytes : List ℕ) (run' : Run) (words' bytes' : List ℕ) : Type 0 where
  pub store : store_of run' words' bytes' ≡ f (store_of run words bytes)
  pub kept : Kept run bytes run' words' bytes'

-- a change that is made in full, or not at all where there is no room
pub record Tried (r : Bool) (f : Store → Option Store) (run : Run) (words bytes : List ℕ) (run' : Run) (words' bytes' : List ℕ) : Type 0 where
  pub did : f (store_of run words bytes) ≡ cond r (some (store_of run' words' bytes')) none
  pub undone : r ≡ false → store_of run' words' bytes' ≡ store_of run words bytes
  pub kept : Kept run bytes run' words' bytes'

-- a value that is made, or a refusal, which leaves the store as it was
abbrev pub made_by : Result Value Refused → Store → Made
made_by (Ok v) σ = gives v σ
made_by (Err e) σ = refuses e.why e.place

pub record Makes (r : Result Value Refused) (f : Store → Made) (run : Run) (words bytes : List ℕ) (run' : Run) (words' bytes' : List ℕ) : Type 0 where
  pub did : f (store_of run words bytes) ≡ made_by r (store_of run' words' bytes')
  pub undone : (e : Refused) → r ≡ Err e → store_of run' words' bytes' ≡ store_of run words bytes
  pub kept : Kept run bytes run' words' bytes'

-- of a function that has no byte store, for whatever stands there
abbrev pub BecameWords : (Store → Store) → Run → List ℕ → Run → List ℕ → Type 0
BecameWords f run words run' words' = (bytes : List ℕ) → Became f run words bytes run' words' bytes

abbrev pub TriedWords : Bool → (Store → Option Store) → Run → List ℕ → Run → List ℕ → Type 0
TriedWords r f run words run' words' = (bytes : List ℕ) → Tried r f run words bytes run' words' bytes

-- and of one that has the run's numbers alone
abbrev pub BecameRun : (Store → Store) → Run → Run → Type 0
BecameRun f run run' = (words bytes : List ℕ) → Fits run words → Became f run words bytes run' words bytes

-- of one that has no words, and of one that has no bytes
abbrev pub MakesText : Result Value Refused → (Store → Made) → Run → List ℕ → Run → List ℕ → Type 0
MakesText r f run bytes run' bytes' = (words : List ℕ) → Fits run words → Makes r f run words bytes run' words bytes'

abbrev pub MakesWords : Result Value Refused → (Store → Made) → Run → List ℕ → Run → List ℕ → Type 0
MakesWords r f run words run' words' = (bytes : List ℕ) → Makes r f run words bytes run' words' bytes
