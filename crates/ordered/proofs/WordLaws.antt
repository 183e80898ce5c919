-- The laws of an object's entries in the lent words: one cell read, the count of the entries, and the search for the next. Assumes nothing.
use mathlib.Core.Path.{◌≡◌, refl, sym, ap, ap₂, ◌∙◌}
use mathlib.Core.Bool.{Bool, true, false, not, cond}
use mathlib.Core.List.{List, ◌∷◌, ◌++◌}
use Prim.Native.Nat.{ℕ, suc, ◌+◌, ◌-◌, ◌/◌, ◌%◌, ◌≤◌, ◌<◌}
use native.Mathlib.Decide.{ℕ_discrete}
use native.Mathlib.Omega.{arith}
use lib.Dec.{eqb}
use lib.ListN.{length, get_or, get_or-eq_default}
use Rattle.packed.specs.declared.layout.Header.{Header}
use Rattle.rules.specs.Store.{Cell, head, part_text}
use Rattle.rules.specs.Output.{ascending, sorted_entries}
use Rattle.std.specs.Prelude.{Option as Found, Some, None}
use Rattle.stores.specs.Finding.{found_of}
use Rattle.stores.specs.View.{rec_at}
use Rattle.stores.specs.Stores.{cell_in, cells_of, store_of}
use Rattle.boxes.proofs.CellLaws.{what, key_at, cell_head, cell_item, cell_entry, length-cells, cell_get}
use Rattle.ordered.specs.Ordered.{key_in, owns, is_owned, key_text, is_after, first_of, better_of, next_of, sorted_from, sorted_cells, EntryCount, KeyAt, Precedes, IsAfter, FirstOf, BetterOf, NextEntry}
use Rattle.ordered.proofs.OrderLaws.{head_of, upward, downward, next_more, next_first, next_follows}
use Rattle.ordered.proofs.EntryLaws.{left, left_owned, left_other, left_none}
use Rattle.stores.specs.declared.run.Run.{Run}

-- ---- one cell

module _ (words : List ℕ) (i : ℕ) where
  abbrev here : Cell
  here = cell_in (rec_at 1792 4 i words)

  -- what is no entry is nobody's and has no key
  no_entry : (owner : ℕ) → what words i % 4 < 2 → (false ≡ owns owner here) × (0 ≡ key_in here)
  unfolding owns
  no_entry owner few = go (ℕ_discrete (what words i % 4) 0)
    where
      go : Dec (what words i % 4 ≡ 0) → (false ≡ owns owner here) × (0 ≡ key_in here)
      go (yes e) = (sym (ap (owns owner) (cell_head words i e)), sym (ap key_in (cell_head words i e)))
      go (no ne) = (sym (ap (owns owner) (cell_item words i (omega arith))), sym (ap key_in (cell_item words i (omega arith))))

  pub not_owned : (owner : ℕ) → what words i % 4 < 2 → false ≡ is_owned owner words i
  not_owned owner few = (no_entry owner few).0

  pub owned_by : (owner : ℕ) → 2 ≤ what words i % 4 → eqb (what words i / 4) owner ≡ is_owned owner words i
  unfolding owns
  owned_by owner two = sym (ap (owns owner) (cell_entry words i two))

module _ (run : Run) (words : List ℕ) (i : ℕ) where
  pub key_entry : i < cells_of run → 2 ≤ what words i % 4 → KeyAt (key_at words i) run words i
  key_entry below two = record { is = λ bytes. sym (ap key_in (cell_get run words bytes i below ∙ cell_entry words i two)) }

  pub key_other : i < cells_of run → what words i % 4 < 2 → KeyAt 0 run words i
  key_other below few = record { is = λ bytes. (no_entry words i 0 few).1 ∙ sym (ap key_in (cell_get run words bytes i below)) }

  pub key_past : cells_of run ≤ i → KeyAt 0 run words i
  key_past past =
      record { is = λ bytes. sym (ap key_in (get_or-eq_default (store_of run words bytes).cells (head 0) (omega (arith, length-cells run words bytes)))) }

-- ---- which cell is written first

module _ (image : List ℕ) (h : Header) (run : Run) (words : List ℕ) where
  keys_ordered : {a b i j : ℕ} → KeyAt a run words i → KeyAt b run words j → (bytes : List ℕ)
      → ascending (part_text image h a) (part_text image h b)
      ≡ ascending (key_text image h (store_of run words bytes).cells i) (key_text image h (store_of run words bytes).cells j)
  unfolding key_text
  keys_ordered p q bytes = ap₂ (λ (k l : ℕ). ascending (part_text image h k) (part_text image h l)) (p.is bytes) (q.is bytes)

  module _ (r : Bool) (a b i j : ℕ) (p : KeyAt a run words i) (q : KeyAt b run words j) where
    pub precedes_up : i < j → r ≡ ascending (part_text image h a) (part_text image h b) → Precedes r image h run words i j
    precedes_up below e =
        record { is = λ bytes. e ∙ keys_ordered p q bytes ∙ sym (upward image h (store_of run words bytes).cells i j below) }

    pub precedes_down : j ≤ i → r ≡ ascending (part_text image h b) (part_text image h a) → Precedes (not r) image h run words i j
    precedes_down above e =
        record { is = λ bytes. ap not (e ∙ keys_ordered q p bytes) ∙ sym (downward image h (store_of run words bytes).cells i j above) }

  pub after_none : (j : ℕ) → IsAfter true image h run words None j
  after_none j = record { is = λ bytes. refl }

  pub after_one : (r : Bool) (i j : ℕ) → Precedes r image h run words i j → IsAfter r image h run words (Some i) j
  after_one r i j p = record { is = λ bytes. p.is bytes }

  pub first_alone : (i : ℕ) → FirstOf (Some i) image h run words i None
  first_alone i = record { is = λ bytes. refl }

  pub first_here : (i j : ℕ) → Precedes true image h run words i j → FirstOf (Some i) image h run words i (Some j)
  first_here i j p = record { is = λ bytes. ap (λ (b : Bool). cond b (Some i) (Some j)) (p.is bytes) }

  pub first_there : (i j : ℕ) → Precedes false image h run words i j → FirstOf (Some j) image h run words i (Some j)
  first_there i j p = record { is = λ bytes. ap (λ (b : Bool). cond b (Some i) (Some j)) (p.is bytes) }

  -- ---- the next entry

  module _ (owner : ℕ) (last : Found ℕ) where
    module _ (i : ℕ) (best : Found ℕ) (below : i < cells_of run) where
      better : (r : Found ℕ) (b : Bool) → b ≡ is_owned owner words i
          → ((bytes : List ℕ) → r ≡ cond b (cond (is_after image h (store_of run words bytes).cells last i) (first_of image h (store_of run words bytes).cells i best) best) best)
          → BetterOf r image h run words owner last i best
      better r b e is =
          record {
            is = λ bytes.
                is bytes
                ∙ ap (λ (c : Bool). cond c (cond (is_after image h (store_of run words bytes).cells last i) (first_of image h (store_of run words bytes).cells i best) best) best)
                (e ∙ ap (owns owner) (sym (cell_get run words bytes i below)));
          }

      pub better_other : false ≡ is_owned owner words i → BetterOf best image h run words owner last i best
      better_other e = better best false e (λ bytes. refl)

      pub better_before : true ≡ is_owned owner words i → IsAfter false image h run words last i → BetterOf best image h run words owner last i best
      better_before e after =
          better best true e (λ bytes. ap (λ (c : Bool). cond c (first_of image h (store_of run words bytes).cells i best) best) (after.is bytes))

      pub better_first : (r : Found ℕ) → true ≡ is_owned owner words i → IsAfter true image h run words last i → FirstOf r image h run words i best
          → BetterOf r image h run words owner last i best
      better_first r e after first =
          better r true e
          (λ bytes. first.is bytes ∙ ap (λ (c : Bool). cond c (first_of image h (store_of run words bytes).cells i best) best) (after.is bytes))

    -- the next of the cells from i on
    pub record NextFrom (i : ℕ) (best : Found ℕ) : Type 0 where
      pub is : (bytes : List ℕ)
          → best ≡ found_of (next_of image h (store_of run words bytes).cells last (sorted_from image h (store_of run words bytes).cells owner i (cells_of run - i)))

    pub next_start : NextFrom (cells_of run) None
    unfolding sorted_from next_of
    next_start =
        let none : cells_of run - cells_of run ≡ 0 = omega arith in
        record { is = λ bytes. rw none }

    pub next_turn : (i : ℕ) (best r : Found ℕ) → 0 < i → i ≤ cells_of run → NextFrom i best → BetterOf r image h run words owner last (i - 1) best → NextFrom (i - 1) r
    next_turn i best r more most before turn =
        let same : suc (i - 1) ≡ i = omega arith in
        let count : suc (cells_of run - i) ≡ cells_of run - (i - 1) = omega arith in
        record {
          is = λ bytes.
              let cells = (store_of run words bytes).cells in
              turn.is bytes
              ∙ ap (better_of image h cells owner last (i - 1))
              (before.is bytes ∙ ap (λ (k : ℕ). found_of (next_of image h cells last (sorted_from image h cells owner k (cells_of run - i)))) (sym same))
              ∙ sym (next_more image h cells last owner (i - 1) (cells_of run - i))
              ∙ ap (λ (n : ℕ). found_of (next_of image h cells last (sorted_from image h cells owner (i - 1) n))) count;
        }

    pub next_done : (i : ℕ) (best : Found ℕ) → i ≤ 0 → NextFrom i best → NextEntry best image h run words owner last
    next_done i best none before =
        let first : i ≡ 0 = omega arith in
        record {
          is = λ bytes.
              let cells = (store_of run words bytes).cells in
              let all : cells_of run - i ≡ length cells = omega (arith, length-cells run words bytes) in
              before.is bytes ∙ ap₂ (λ (k n : ℕ). found_of (next_of image h cells last (sorted_from image h cells owner k n))) first all;
        }

  -- the answer is the first of the sorted cells, or the one that follows the last
  pub answer_first : (owner : ℕ) (r : Found ℕ) (bytes : List ℕ) → NextEntry r image h run words owner None
      → r ≡ found_of (head_of (sorted_cells image h owner (store_of run words bytes).cells))
  answer_first owner r bytes next = next.is bytes ∙ ap found_of (next_first image h (store_of run words bytes).cells owner)

  pub answer_next : (owner : ℕ) (r : Found ℕ) (i : ℕ) (front rest bytes : List ℕ) → NextEntry r image h run words owner (Some i)
      → sorted_cells image h owner (store_of run words bytes).cells ≡ front ++ (i ∷ rest) → r ≡ found_of (head_of rest)
  answer_next owner r i front rest bytes next e = next.is bytes ∙ ap found_of (next_follows image h (store_of run words bytes).cells owner i front rest e)

-- ---- the count

module _ (run : Run) (words : List ℕ) (owner : ℕ) where
  -- with those from i on, all
  pub record CountTo (i count : ℕ) : Type 0 where
    pub is : (image : List ℕ) (h : Header) (bytes : List ℕ)
        → length (sorted_entries image h (store_of run words bytes) owner (store_of run words bytes).cells)
        ≡ count + left image h (store_of run words bytes) owner (store_of run words bytes).cells i

  pub count_start : CountTo 0 0
  count_start = record { is = λ image h bytes. omega arith }

  module _ (i count : ℕ) (before : CountTo i count) where
    module _ (below : i < cells_of run) where
      abbrev left_at : List ℕ → Header → List ℕ → ℕ → ℕ
      left_at image h bytes k = left image h (store_of run words bytes) owner (store_of run words bytes).cells k

      whose : (b : Bool) → b ≡ is_owned owner words i → (bytes : List ℕ) → b ≡ owns owner (get_or (store_of run words bytes).cells i (head 0))
      whose b e bytes = e ∙ ap (owns owner) (sym (cell_get run words bytes i below))

      within : (bytes : List ℕ) → i < length (store_of run words bytes).cells
      within bytes = omega (arith, length-cells run words bytes, below)

      pub count_owned : true ≡ is_owned owner words i → CountTo (i + 1) (count + 1)
      count_owned e =
          let next : suc i ≡ i + 1 = omega arith in
          record {
            is = λ image h bytes.
                omega (arith, before.is image h bytes, left_owned image h (store_of run words bytes) owner i (store_of run words bytes).cells (within bytes) (whose true e bytes), ap (left_at image h bytes) next);
          }

      pub count_other : false ≡ is_owned owner words i → CountTo (i + 1) count
      count_other e =
          let next : suc i ≡ i + 1 = omega arith in
          record {
            is = λ image h bytes.
                before.is image h bytes
                ∙ ap (λ (n : ℕ). count + n) (left_other image h (store_of run words bytes) owner i (store_of run words bytes).cells (within bytes) (whose false e bytes) ∙ ap (left_at image h bytes) next);
          }

    pub count_done : cells_of run ≤ i → count ≤ 1024 → EntryCount count run words owner
    count_done past most =
        record {
          is = λ image h bytes.
              omega (arith, before.is image h bytes, left_none image h (store_of run words bytes) owner i (store_of run words bytes).cells (omega (arith, length-cells run words bytes, past)));
          most = most;
        }
