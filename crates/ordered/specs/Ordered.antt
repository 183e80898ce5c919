-- An object's entries by ascending key, as numbers of cells (01 'Output'); the one that is written next.
use Rattle.std.specs.Prelude.{ℕ, Option, Some, None, zero, suc, ◌≤◌, ◌≡◌, Bool, true, false, not, cond, List, [], ◌∷◌, ltb, eqb, length, get_or}
use Rattle.std.proofs.Math.Option.{Option as Next, some, none}
use Rattle.packed.specs.declared.layout.Header.{Header}
use Rattle.rules.specs.Store.{Cell, head, item, entry, part_text}
use Rattle.rules.specs.Output.{ascending, sorted_entries}
use Rattle.stores.specs.Finding.{found_of}
use Rattle.stores.specs.View.{rec_at}
use Rattle.stores.specs.Stores.{store_of, cell_in}
use Rattle.stores.specs.declared.run.Run.{Run}

-- the key of an entry, and whether a cell is the owner's entry
abbrev pub key_in : Cell → ℕ
key_in (head n) = 0
key_in (item o v) = 0
key_in (entry o k v) = k

unfoldable pub owns : ℕ → Cell → Bool
owns owner (head n) = false
owns owner (item o v) = false
owns owner (entry o k v) = eqb o owner

abbrev pub is_owned : ℕ → List ℕ → ℕ → Bool
is_owned owner words i = owns owner (cell_in (rec_at 1792 4 i words))

module _ (image : List ℕ) (h : Header) (cells : List Cell) where
  -- the key bytes of cell i
  unfoldable pub key_text : ℕ → List ℕ
  key_text i = part_text image h (key_in (get_or cells i (head 0)))

  -- "by ascending key bytes": cell i before the first whose key does not stand before its own
  unfoldable pub placed : ℕ → List ℕ → List ℕ
  placed i [] = i ∷ []
  placed i (j ∷ js) = cond (ascending (key_text i) (key_text j)) (i ∷ j ∷ js) (j ∷ placed i js)

  -- the owner's entries among the n cells from i on
  unfoldable pub sorted_from : ℕ → ℕ → ℕ → List ℕ
  sorted_from owner i zero = []
  sorted_from owner i (suc n) =
      cond (owns owner (get_or cells i (head 0))) (placed i (sorted_from owner (suc i) n)) (sorted_from owner (suc i) n)

  -- whether cell i is written before cell j: by their keys and, where these are equal, by their numbers
  unfoldable pub precedes : ℕ → ℕ → Bool
  precedes i j = cond (ltb i j) (ascending (key_text i) (key_text j)) (not (ascending (key_text j) (key_text i)))

  abbrev pub is_after : Option ℕ → ℕ → Bool
  is_after None j = true
  is_after (Some i) j = precedes i j

  -- the first of these cells that is written after the last one
  unfoldable pub next_of : Option ℕ → List ℕ → Next ℕ
  next_of last [] = none
  next_of last (j ∷ js) = cond (is_after last j) (some j) (next_of last js)

  -- of two cells the one that is written first
  abbrev pub first_of : ℕ → Option ℕ → Option ℕ
  first_of i None = Some i
  first_of i (Some j) = cond (precedes i j) (Some i) (Some j)

  -- the best so far with cell i looked at as well
  abbrev pub better_of : ℕ → Option ℕ → ℕ → Option ℕ → Option ℕ
  better_of owner last i best = cond (owns owner (get_or cells i (head 0))) (cond (is_after last i) (first_of i best) best) best

-- "entries by ascending key bytes"
abbrev pub sorted_cells : List ℕ → Header → ℕ → List Cell → List ℕ
sorted_cells image h owner cells = sorted_from image h cells owner 0 (length cells)

-- what is counted, read and found does not depend on text, nor a count on keys
pub record EntryCount (r : ℕ) (run : Run) (words : List ℕ) (owner : ℕ) : Type 0 where
  pub is : (image : List ℕ) (h : Header) (bytes : List ℕ)
      → r ≡ length (sorted_entries image h (store_of run words bytes) owner (store_of run words bytes).cells)
  pub most : r ≤ 1024

pub record KeyAt (r : ℕ) (run : Run) (words : List ℕ) (i : ℕ) : Type 0 where
  pub is : (bytes : List ℕ) → r ≡ key_in (get_or (store_of run words bytes).cells i (head 0))

pub record Precedes (r : Bool) (image : List ℕ) (h : Header) (run : Run) (words : List ℕ) (i j : ℕ) : Type 0 where
  pub is : (bytes : List ℕ) → r ≡ precedes image h (store_of run words bytes).cells i j

pub record IsAfter (r : Bool) (image : List ℕ) (h : Header) (run : Run) (words : List ℕ) (last : Option ℕ) (j : ℕ) : Type 0 where
  pub is : (bytes : List ℕ) → r ≡ is_after image h (store_of run words bytes).cells last j

pub record FirstOf (r : Option ℕ) (image : List ℕ) (h : Header) (run : Run) (words : List ℕ) (i : ℕ) (best : Option ℕ) : Type 0 where
  pub is : (bytes : List ℕ) → r ≡ first_of image h (store_of run words bytes).cells i best

pub record BetterOf (r : Option ℕ) (image : List ℕ) (h : Header) (run : Run) (words : List ℕ) (owner : ℕ) (last : Option ℕ) (i : ℕ) (best : Option ℕ) : Type 0 where
  pub is : (bytes : List ℕ) → r ≡ better_of image h (store_of run words bytes).cells owner last i best

pub record NextEntry (r : Option ℕ) (image : List ℕ) (h : Header) (run : Run) (words : List ℕ) (owner : ℕ) (last : Option ℕ) : Type 0 where
  pub is : (bytes : List ℕ)
      → r ≡ found_of (next_of image h (store_of run words bytes).cells last (sorted_cells image h owner (store_of run words bytes).cells))
