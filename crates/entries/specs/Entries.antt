-- The entries of an object that is being built stand in the cells after its head, one after the other.
use Rattle.std.specs.Prelude.{ℕ, Option, Some, None, suc, ◌+◌, ◌≤◌, ◌≡◌, cond, leb, List, [], ◌∷◌, ◌++◌, map, length, get_or}
use Rattle.std.proofs.Math.Option.{Option as Found, some, none}
use Rattle.packed.specs.declared.layout.Header.{Header}
use Rattle.rules.specs.declared.Value.{Value}
use Rattle.rules.specs.Store.{Cell, most_cells, entry, part_text, same_text}
use Rattle.rules.specs.Building.{entered}
use Rattle.stores.specs.View.{rec_at, view}
use Rattle.stores.specs.Stores.{pending_in, bindings_in, pendings_in, cells_in}

-- the key of a cell's words, if it is an entry
abbrev pub key_in : List ℕ → ℕ
key_in ws = get_or ws 3 0

unfoldable pub keys_in : ℕ → List ℕ → List ℕ
keys_in n words = view key_in 1792 4 n words

-- the number of the first of these keys that is that key, by content, i the number of the first of all
unfoldable pub key_at : List ℕ → Header → ℕ → ℕ → List ℕ → Found ℕ
key_at image h key i [] = none
key_at image h key i (k ∷ ks) = cond (same_text (part_text image h k) (part_text image h key)) (some i) (key_at image h key (suc i) ks)

-- an object's entries as cells
abbrev pub entries_of : ℕ → List (ℕ × Value) → List Cell
entries_of owner es = map (λ e. entry owner e.0 e.1) es

-- the end of an object, the number after its last cell, where there are so many cells
abbrev pub object_end : ℕ → Option ℕ
object_end n = cond (leb n most_cells) (Some n) None

-- "An entry met again replaces its value": of whatever entries stand between head and end, those of `entered` with the pending item `at`
pub record EntryPut (image : List ℕ) (h : Header) (head end key at : ℕ) (r : Option ℕ) (words words' : List ℕ) : Type 0 where
  pub long : length words' ≡ length words
  pub bindings : (n : ℕ) → n ≤ 256 → bindings_in n words' ≡ bindings_in n words
  pub pendings : (n : ℕ) → n ≤ 512 → pendings_in n words' ≡ pendings_in n words
  pub before : cells_in (head + 1) words' ≡ cells_in (head + 1) words
  pub ends : (es : List (ℕ × Value)) → cells_in end words ≡ cells_in (head + 1) words ++ entries_of head es
      → r ≡ object_end (head + 1 + length (entered image h es key (pending_in (rec_at 768 2 at words))))
  pub entries : (es : List (ℕ × Value)) → cells_in end words ≡ cells_in (head + 1) words ++ entries_of head es → (n : ℕ) → r ≡ Some n
      → cells_in n words' ≡ cells_in (head + 1) words ++ entries_of head (entered image h es key (pending_in (rec_at 768 2 at words)))
