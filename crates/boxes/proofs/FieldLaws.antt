-- The laws of an object's entries: which cell is the owner's entry of a key, and the search for it. Assumes nothing.
use mathlib.Core.Path.{◌≡◌, refl, sym, ap, ap₂, ◌∙◌, subst}
use mathlib.Core.Logic.{◌≢◌}
use mathlib.Core.Bool.{Bool, true, false, cond}
use mathlib.Core.List.{List, ◌∷◌}
use mathlib.Core.Option.{Option, some}
use Prim.Native.Nat.{ℕ, suc, ◌+◌, ◌/◌, ◌%◌, ◌≤◌, ◌<◌}
use native.Mathlib.Decide.{ℕ_discrete}
use native.Mathlib.Numerals.{add-one}
use native.Mathlib.Omega.{arith}
use borrow.Author.Tests.{eq-eqb, ne_eqb}
use lib.ListN.{get_or, drop, drop_of_length-le}
use lib.Seq.{drop-cons}
use Rattle.packed.specs.declared.layout.Header.{Header}
use Rattle.rules.specs.Store.{Cell, head, item, entry, entry_at, part_text, same_text}
use Rattle.std.specs.Prelude.{Some, None}
use Rattle.stores.specs.Finding.{found_of}
use Rattle.stores.specs.Stores.{cells_of, store_of}
use Rattle.boxes.specs.Cells.{EntryAt, matches, is_entry}
use Rattle.boxes.proofs.CellLaws.{what, key_at, cell_head, cell_item, cell_entry, length-cells, cell_get}
use Rattle.stores.specs.declared.run.Run.{Run}

module _ (image : List ℕ) (h : Header) (owner key : ℕ) where
  -- ---- one cell

  module _ (words : List ℕ) (i : ℕ) where
    pub no_entry : what words i % 4 < 2 → false ≡ is_entry image h owner key words i
    unfolding matches
    no_entry few = go (ℕ_discrete (what words i % 4) 0)
      where
        go : Dec (what words i % 4 ≡ 0) → false ≡ is_entry image h owner key words i
        go (yes e) = sym (ap (matches image h owner key) (cell_head words i e))
        go (no ne) = sym (ap (matches image h owner key) (cell_item words i (omega arith)))

    pub others_entry : 2 ≤ what words i % 4 → what words i / 4 ≢ owner → false ≡ is_entry image h owner key words i
    unfolding matches
    others_entry two other = rw (cell_entry words i two, ne_eqb (what words i / 4) owner other)

    pub its_entry : (r : Bool) → 2 ≤ what words i % 4 → what words i / 4 ≡ owner
        → r ≡ same_text (part_text image h (key_at words i)) (part_text image h key) → r ≡ is_entry image h owner key words i
    unfolding matches
    its_entry r two whose same = rw (cell_entry words i two, eq-eqb (what words i / 4) owner whose) same

  -- ---- the search

  abbrev found : ℕ → List Cell → Option ℕ
  found i cs = entry_at image h owner (part_text image h key) i cs

  found_cons : (i : ℕ) (x : Cell) (cs : List Cell) → found i (x ∷ cs) ≡ cond (matches image h owner key x) (some i) (found (suc i) cs)
  unfolding entry_at matches
  found_cons i (head n) cs = refl
  found_cons i (item o v) cs = refl
  found_cons i (entry o k v) cs = refl

  look : (run : Run) (words bytes : List ℕ) (i : ℕ) (r : Bool) → i < cells_of run → r ≡ is_entry image h owner key words i
      → found i (drop i (store_of run words bytes).cells) ≡ cond r (some i) (found (i + 1) (drop (i + 1) (store_of run words bytes).cells))
  look run words bytes i r below e =
      let cells = (store_of run words bytes).cells in
      ap (found i) (drop-cons cells i (head 0) (omega (arith, length-cells run words bytes)))
      ∙ found_cons i (get_or cells i (head 0)) (drop (suc i) cells)
      ∙ ap₂ (λ (b : Bool) (k : ℕ). cond b (some i) (found k (drop k cells))) (ap (matches image h owner key) (cell_get run words bytes i below) ∙ sym e) (sym (add-one i))

  module _ (run : Run) (words : List ℕ) where
    -- the search is that of the cells from i on
    pub record LeftFrom (i : ℕ) : Type 0 where
      pub is : (bytes : List ℕ) → found 0 (store_of run words bytes).cells ≡ found i (drop i (store_of run words bytes).cells)

    pub entry_start : LeftFrom 0
    entry_start = record { is = λ bytes. refl }

    pub entry_here : (i : ℕ) → i < cells_of run → LeftFrom i → true ≡ is_entry image h owner key words i → EntryAt (Some i) image h run words owner key
    entry_here i below left e = record { is = λ bytes. sym (ap found_of (left.is bytes ∙ look run words bytes i true below e)) }

    pub entry_next : (i : ℕ) → i < cells_of run → LeftFrom i → false ≡ is_entry image h owner key words i → LeftFrom (i + 1)
    entry_next i below left e = record { is = λ bytes. left.is bytes ∙ look run words bytes i false below e }

    pub entry_missing : (i : ℕ) → cells_of run ≤ i → LeftFrom i → EntryAt None image h run words owner key
    unfolding entry_at
    entry_missing i past left =
        record {
          is = λ bytes. sym (ap found_of (left.is bytes ∙ ap (found i) (drop_of_length-le (store_of run words bytes).cells (subst (λ (n : ℕ). n ≤ i) (sym (length-cells run words bytes)) past))));
        }
