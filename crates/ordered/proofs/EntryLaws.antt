-- The laws of sorted entries: they are those of the sorted cells, and how many there are. Assumes nothing.
use mathlib.Core.Path.{◌≡◌, refl, sym, ap, ◌∙◌}
use mathlib.Core.Bool.{Bool, true, false, cond}
use mathlib.Core.List.{List, [], ◌∷◌, map}
use Prim.Native.Nat.{ℕ, zero, suc, ◌+◌, ◌≤◌, ◌<◌}
use native.Mathlib.Omega.{arith}
use lib.ListN.{length, get_or, drop, drop_of_length-le}
use lib.Seq.{drop-cons}
use Rattle.packed.specs.declared.layout.Header.{Header}
use Rattle.rules.specs.declared.Value.{Value}
use Rattle.rules.specs.Store.{Cell, head, item, entry, Store, part_text, value_in}
use Rattle.rules.specs.Output.{ascending, inserted, sorted_entries}
use Rattle.ordered.specs.Ordered.{key_in, owns, key_text, placed, sorted_from, sorted_cells}

module _ (image : List ℕ) (h : Header) (σ : Store) where
  entries_cons : (owner : ℕ) (x : Cell) (cs : List Cell)
      → sorted_entries image h σ owner (x ∷ cs)
      ≡ cond (owns owner x) (inserted image h σ (part_text image h (key_in x)) (value_in x) (sorted_entries image h σ owner cs)) (sorted_entries image h σ owner cs)
  unfolding sorted_entries owns
  entries_cons owner (head n) cs = refl
  entries_cons owner (item o v) cs = refl
  entries_cons owner (entry o k v) cs = refl

  -- ---- the entries of the sorted cells

  module _ (cells : List Cell) where
    -- what is written of cell i
    abbrev pub entry_of : ℕ → List ℕ × Value
    entry_of i = (key_text image h cells i, value_in (get_or cells i (head 0)))

    inserted_placed : (i : ℕ) (js : List ℕ)
        → inserted image h σ (key_text image h cells i) (value_in (get_or cells i (head 0))) (map entry_of js) ≡ map entry_of (placed image h cells i js)
    unfolding inserted placed
    inserted_placed i [] = refl
    inserted_placed i (j ∷ js) = go (ascending (key_text image h cells i) (key_text image h cells j)) (inserted_placed i js)
      where
        go : (b : Bool) → inserted image h σ (key_text image h cells i) (value_in (get_or cells i (head 0))) (map entry_of js) ≡ map entry_of (placed image h cells i js)
            → cond b (entry_of i ∷ entry_of j ∷ map entry_of js) (entry_of j ∷ inserted image h σ (key_text image h cells i) (value_in (get_or cells i (head 0))) (map entry_of js))
            ≡ map entry_of (cond b (i ∷ j ∷ js) (j ∷ placed image h cells i js))
        go true rest = refl
        go false rest = ap (λ (es : List (List ℕ × Value)). entry_of j ∷ es) rest

    sorted_from_lem : (owner n i : ℕ) → length cells ≡ i + n → sorted_entries image h σ owner (drop i cells) ≡ map entry_of (sorted_from image h cells owner i n)
    unfolding sorted_entries sorted_from key_text
    sorted_from_lem owner zero i e = ap (sorted_entries image h σ owner) (drop_of_length-le cells {i = i} (omega arith))
    sorted_from_lem owner (suc n) i e =
        ap (sorted_entries image h σ owner) (drop-cons cells i (head 0) (omega arith))
        ∙ entries_cons owner (get_or cells i (head 0)) (drop (suc i) cells)
        ∙ ap (λ (es : List (List ℕ × Value)). cond (owns owner (get_or cells i (head 0))) (inserted image h σ (key_text image h cells i) (value_in (get_or cells i (head 0))) es) es)
        (sorted_from_lem owner n (suc i) (omega arith))
        ∙ go (owns owner (get_or cells i (head 0)))
      where
        go : (b : Bool)
            → cond b (inserted image h σ (key_text image h cells i) (value_in (get_or cells i (head 0))) (map entry_of (sorted_from image h cells owner (suc i) n))) (map entry_of (sorted_from image h cells owner (suc i) n))
            ≡ map entry_of (cond b (placed image h cells i (sorted_from image h cells owner (suc i) n)) (sorted_from image h cells owner (suc i) n))
        go true = inserted_placed i (sorted_from image h cells owner (suc i) n)
        go false = refl

    pub sorted_entries_lem : (owner : ℕ) → sorted_entries image h σ owner cells ≡ map entry_of (sorted_cells image h owner cells)
    sorted_entries_lem owner = sorted_from_lem owner (length cells) 0 (omega arith)

  -- ---- how many there are

  length_inserted : (key : List ℕ) (v : Value) (es : List (List ℕ × Value)) → length (inserted image h σ key v es) ≡ suc (length es)
  unfolding inserted
  length_inserted key v [] = refl
  length_inserted key v (e ∷ es) = go (ascending key e.0) (length_inserted key v es)
    where
      go : (b : Bool) → length (inserted image h σ key v es) ≡ suc (length es)
          → length (cond b ((key, v) ∷ e ∷ es) (e ∷ inserted image h σ key v es)) ≡ suc (suc (length es))
      go true rest = refl
      go false rest = ap suc rest

  -- the entries from cell i on
  abbrev pub left : ℕ → List Cell → ℕ → ℕ
  left owner cells i = length (sorted_entries image h σ owner (drop i cells))

  left_cons : (owner i : ℕ) (cells : List Cell) (b : Bool) → i < length cells → b ≡ owns owner (get_or cells i (head 0))
      → left owner cells i ≡ cond b (suc (left owner cells (suc i))) (left owner cells (suc i))
  left_cons owner i cells b below e =
      ap (λ (cs : List Cell). length (sorted_entries image h σ owner cs)) (drop-cons cells i (head 0) below)
      ∙ ap length (entries_cons owner (get_or cells i (head 0)) (drop (suc i) cells))
      ∙ go (owns owner (get_or cells i (head 0)))
      ∙ ap (λ (c : Bool). cond c (suc (left owner cells (suc i))) (left owner cells (suc i))) (sym e)
    where
      go : (b : Bool)
          → length (cond b (inserted image h σ (part_text image h (key_in (get_or cells i (head 0)))) (value_in (get_or cells i (head 0))) (sorted_entries image h σ owner (drop (suc i) cells))) (sorted_entries image h σ owner (drop (suc i) cells)))
          ≡ cond b (suc (left owner cells (suc i))) (left owner cells (suc i))
      go true = length_inserted (part_text image h (key_in (get_or cells i (head 0)))) (value_in (get_or cells i (head 0))) (sorted_entries image h σ owner (drop (suc i) cells))
      go false = refl

  pub left_owned : (owner i : ℕ) (cells : List Cell) → i < length cells → true ≡ owns owner (get_or cells i (head 0)) → left owner cells i ≡ suc (left owner cells (suc i))
  left_owned owner i cells below e = left_cons owner i cells true below e

  pub left_other : (owner i : ℕ) (cells : List Cell) → i < length cells → false ≡ owns owner (get_or cells i (head 0)) → left owner cells i ≡ left owner cells (suc i)
  left_other owner i cells below e = left_cons owner i cells false below e

  pub left_none : (owner i : ℕ) (cells : List Cell) → length cells ≤ i → left owner cells i ≡ 0
  unfolding sorted_entries
  left_none owner i cells past = ap (λ (cs : List Cell). length (sorted_entries image h σ owner cs)) (drop_of_length-le cells {i = i} past)
