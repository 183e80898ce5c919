-- Vec, tuple and object in cells: what their functions give and leave, by the definitions of the rules.
use Rattle.std.specs.Prelude.{ℕ, Option, ◌+◌, ◌≤◌, ◌≡◌, Bool, false, ◌&&◌, List, [], ◌∷◌, ◌++◌, map, eqb, length, get_or, drop}
use Rattle.std.proofs.Math.Option.{Option as Changed}
use Rattle.packed.specs.declared.layout.Header.{Header}
use Rattle.rules.specs.declared.Value.{Value}
use Rattle.rules.specs.Store.{Cell, head, item, entry, Store, dropped, count_in, item_at, cell_at, entry_at, part_text, same_text, taken_cells}
use Rattle.rules.specs.Building.{item_cells}
use Rattle.stores.specs.Finding.{found_of}
use Rattle.stores.specs.View.{rec_at}
use Rattle.stores.specs.Stores.{store_of, cell_in, bindings_in, pendings_in, cells_in}
use Rattle.stores.specs.declared.run.Run.{Run}

-- what is found and read does not depend on text
pub record CountIn (r : ℕ) (run : Run) (words : List ℕ) (owner : ℕ) : Type 0 where
  pub is : (bytes : List ℕ) → r ≡ count_in (get_or (store_of run words bytes).cells owner (head 0))

pub record ItemAt (r : Option ℕ) (run : Run) (words : List ℕ) (owner index : ℕ) : Type 0 where
  pub is : (bytes : List ℕ) → r ≡ found_of (item_at (store_of run words bytes) owner index)

pub record CellAt (r : Value) (run : Run) (words : List ℕ) (i : ℕ) : Type 0 where
  pub is : (bytes : List ℕ) → r ≡ cell_at (store_of run words bytes) i

-- "Object keys are compared by content"
pub record EntryAt (r : Option ℕ) (image : List ℕ) (h : Header) (run : Run) (words : List ℕ) (owner key : ℕ) : Type 0 where
  pub is : (bytes : List ℕ) → r ≡ found_of (entry_at image h owner (part_text image h key) 0 (store_of run words bytes).cells)

-- a cell that is the owner's entry of that key
unfoldable pub matches : List ℕ → Header → ℕ → ℕ → Cell → Bool
matches image h owner key (head n) = false
matches image h owner key (item o v) = false
matches image h owner key (entry o k v) = eqb o owner && same_text (part_text image h k) (part_text image h key)

abbrev pub is_entry : List ℕ → Header → ℕ → ℕ → List ℕ → ℕ → Bool
is_entry image h owner key words i = matches image h owner key (cell_in (rec_at 1792 4 i words))

abbrev pub head_words : ℕ → List ℕ
head_words count = count ∷ 0 ∷ 0 ∷ 0 ∷ []

-- "a field that is absent is entered", in one cell
abbrev pub field_entered : ℕ → ℕ → Value → Store → Changed Store
field_entered owner key v σ = taken_cells σ (entry owner key v ∷ [])

-- "vec or tuple of n takes 1+n", of the items that are pending from `from` on
abbrev pub items_taken : ℕ → Store → Changed Store
items_taken from σ = taken_cells (dropped from σ) (item_cells σ (drop from σ.pending))

-- the pending items from `from` on, so many, in the cells after `head`
pub record CopiedItems (head from count : ℕ) (words words' : List ℕ) : Type 0 where
  pub long : length words' ≡ length words
  pub cells : cells_in (head + 1 + count) words' ≡ cells_in (head + 1) words ++ map (item head) (drop from (pendings_in (from + count) words))
  pub bindings : (n : ℕ) → n ≤ 256 → bindings_in n words' ≡ bindings_in n words
  pub pendings : (n : ℕ) → n ≤ 512 → pendings_in n words' ≡ pendings_in n words
