-- The laws of one cell: what its words say, and what reads and stores of them do. Assumes nothing.
use mathlib.Core.Path.{◌≡◌, refl, sym, ap, ap₂, ◌∙◌, subst}
use mathlib.Core.Logic.{◌≢◌}
use mathlib.Core.Bool.{Bool, true, false, cond}
use mathlib.Core.List.{List, [], ◌∷◌, ◌++◌}
use Prim.Native.Nat.{ℕ, ◌+◌, ◌*◌, ◌/◌, ◌%◌, ◌≤◌, ◌<◌}
use native.Mathlib.Numerals.{add-two, add-three}
use native.Mathlib.Omega.{arith}
use borrow.Author.Tests.{lt-ltb, le-ltb, le-leb, lt-leb, eq-eqb, ne_eqb}
use lib.Dec.{eqb}
use lib.ListN.{length, get_or, set, drop, get_or-eq_default}
use lib.Seq.{sets, set-get_or, get_or-drop}
use Rattle.rules.specs.declared.Value.{Value}
use Rattle.rules.specs.declared.Value.TheVariants.{Unit as VUnit}
use Rattle.rules.specs.Store.{Cell, head, item, entry, with_cells, count_in, value_in, holding, item_at, stored_at}
use Rattle.std.specs.Prelude.{Some, None}
use Rattle.slots.specs.Slot.{slot_of, slot_words, value_of, Put}
use Rattle.stores.specs.View.{rec_at}
use Rattle.stores.specs.Stores.{cells_of, cell_in, cells_in, store_of, Fits, Became, BecameWords, Tried, TriedWords}
use Rattle.boxes.specs.Cells.{CountIn, ItemAt, CellAt, field_entered}
use Rattle.stores.proofs.Views.{view_get, view_push, rec_word}
use Rattle.stores.proofs.Chains.{kept_same, refused, made, became_as}
use Rattle.stores.proofs.Counted.{cells_counted, length_part, one_more, one_anew}
use Rattle.stores.specs.declared.run.Run.{Run}
use Rattle.stores.specs.Run.{set_cells}

-- ---- what the words of a cell say

cell_word : (words : List ℕ) (i k : ℕ) → k < 4 → get_or (rec_at 1792 4 i words) k 0 ≡ get_or words (1792 + k + 4 * i) 0
cell_word words i k h = rec_word 1792 4 i k words h ∙ ap (λ (j : ℕ). get_or words j 0) (omega arith)

-- what it is and whose, its key and its value
abbrev pub what : List ℕ → ℕ → ℕ
what words i = get_or words (1794 + 4 * i) 0

abbrev pub key_at : List ℕ → ℕ → ℕ
key_at words i = get_or words (1795 + 4 * i) 0

abbrev pub slot_at : List ℕ → ℕ → Value
slot_at words i = value_of (get_or words (1793 + 4 * i) 0) (get_or words (1792 + 4 * i) 0)

pub what_kind : (owner k : ℕ) → k < 4 → (4 * owner + k) % 4 ≡ k
what_kind owner k h = omega arith

pub what_owner : (owner k : ℕ) → k < 4 → (4 * owner + k) / 4 ≡ owner
what_owner owner k h = omega arith

-- what is no head is an item or an entry; which of them does not matter to its count, its value and what it is with another value
abbrev owned : Bool → ℕ → ℕ → Value → Cell
owned b owner key v = cond b (item owner v) (entry owner key v)

owned_count : (b : Bool) (owner key : ℕ) (v : Value) → count_in (owned b owner key v) ≡ 0
owned_count true owner key v = refl
owned_count false owner key v = refl

owned_value : (b : Bool) (owner key : ℕ) (v : Value) → value_in (owned b owner key v) ≡ v
owned_value true owner key v = refl
owned_value false owner key v = refl

owned_holding : (b : Bool) (owner key : ℕ) (u v : Value) → holding v (owned b owner key u) ≡ owned b owner key v
owned_holding true owner key u v = refl
owned_holding false owner key u v = refl

module _ (words : List ℕ) (i : ℕ) where
  pub cell_head : what words i % 4 ≡ 0 → cell_in (rec_at 1792 4 i words) ≡ head (get_or words (1792 + 4 * i) 0)
  unfolding cell_in
  cell_head e = rw (cell_word words i 2 (omega arith), e, cell_word words i 0 (omega arith))

  cell_owned : what words i % 4 ≢ 0 → cell_in (rec_at 1792 4 i words) ≡ owned (eqb (what words i % 4) 1) (what words i / 4) (key_at words i) (slot_at words i)
  unfolding cell_in
  cell_owned ne =
      rw (cell_word words i 2 (omega arith), ne_eqb (what words i % 4) 0 ne, cell_word words i 0 (omega arith), cell_word words i 1 (omega arith), cell_word words i 3 (omega arith))

  pub cell_item : what words i % 4 ≡ 1 → cell_in (rec_at 1792 4 i words) ≡ item (what words i / 4) (slot_at words i)
  cell_item e = rw (cell_owned (λ q. absurd (omega (arith, e, q))), eq-eqb (what words i % 4) 1 e)

  pub cell_entry : 2 ≤ what words i % 4 → cell_in (rec_at 1792 4 i words) ≡ entry (what words i / 4) (key_at words i) (slot_at words i)
  cell_entry two = rw (cell_owned (λ q. absurd (omega (arith, q))), ne_eqb (what words i % 4) 1 (λ q. absurd (omega (arith, q))))

-- ---- the cells of the store, and what is read of them

module _ (run : Run) (words bytes : List ℕ) where
  pub length-cells : length (store_of run words bytes).cells ≡ cells_of run
  length-cells = length_part cells_counted run words bytes

  pub cell_get : (i : ℕ) → i < cells_of run → get_or (store_of run words bytes).cells i (head 0) ≡ cell_in (rec_at 1792 4 i words)
  unfolding store_of cells_in
  cell_get i below = view_get cell_in 1792 4 (cells_of run) i words (head 0) below

module _ (run : Run) (words : List ℕ) (i : ℕ) where
  -- cell i is x, whatever text there is
  abbrev There : Cell → Type 0
  There x = (bytes : List ℕ) → get_or (store_of run words bytes).cells i (head 0) ≡ x

  head_there : i < cells_of run → what words i % 4 ≡ 0 → There (head (get_or words (1792 + 4 * i) 0))
  head_there below e bytes = cell_get run words bytes i below ∙ cell_head words i e

  owned_there : i < cells_of run → what words i % 4 ≢ 0 → There (owned (eqb (what words i % 4) 1) (what words i / 4) (key_at words i) (slot_at words i))
  owned_there below ne bytes = cell_get run words bytes i below ∙ cell_owned words i ne

  none_there : cells_of run ≤ i → There (head 0)
  none_there past bytes = get_or-eq_default (store_of run words bytes).cells (head 0) (omega (arith, length-cells run words bytes))

  count_is : {x : Cell} → There x → CountIn (count_in x) run words i
  count_is there = record { is = λ bytes. sym (ap count_in (there bytes)) }

  pub count_head : i < cells_of run → what words i % 4 ≡ 0 → CountIn (get_or words (1792 + 4 * i) 0) run words i
  count_head below e = count_is (head_there below e)

  pub count_owned : i < cells_of run → what words i % 4 ≢ 0 → CountIn 0 run words i
  count_owned below ne = rw (owned_count (eqb (what words i % 4) 1) _ _ _) at (count_is (owned_there below ne))

  pub count_past : cells_of run ≤ i → CountIn 0 run words i
  count_past past = count_is (none_there past)

  pub item_found : (count index : ℕ) → CountIn count run words i → index < count → ItemAt (Some (i + 1 + index)) run words i index
  unfolding item_at
  item_found count index is below = record { is = λ bytes. rw (sym (is.is bytes), lt-ltb index count below) }

  pub item_missing : (count index : ℕ) → CountIn count run words i → count ≤ index → ItemAt None run words i index
  unfolding item_at
  item_missing count index is past = record { is = λ bytes. rw (sym (is.is bytes), le-ltb index count past) }

  value_is : {x : Cell} → There x → CellAt (value_in x) run words i
  value_is there = record { is = λ bytes. sym (ap value_in (there bytes)) }

  pub value_owned : i < cells_of run → what words i % 4 ≢ 0 → CellAt (slot_at words i) run words i
  value_owned below ne = rw (owned_value (eqb (what words i % 4) 1) _ _ _) at (value_is (owned_there below ne))

  pub value_head : i < cells_of run → what words i % 4 ≡ 0 → CellAt VUnit run words i
  value_head below e = value_is (head_there below e)

  pub value_past : cells_of run ≤ i → CellAt VUnit run words i
  value_past past = value_is (none_there past)

-- ---- another value in a cell

-- the two words of a value in place of those of an item or an entry
cell_held : (words : List ℕ) (i : ℕ) (v : Value) → what words i % 4 ≢ 0 → value_of (slot_of v).kind (slot_of v).payload ≡ v
    → cell_in (slot_words v ++ drop 2 (rec_at 1792 4 i words)) ≡ holding v (cell_in (rec_at 1792 4 i words))
unfolding cell_in
cell_held words i v ne back =
    rw (get_or-drop 2 (rec_at 1792 4 i words) 0 0, get_or-drop 2 (rec_at 1792 4 i words) 1 0, back, cell_word words i 2 (omega arith), ne_eqb (what words i % 4) 0 ne)
    (sym (owned_holding (eqb (what words i % 4) 1) _ _ _ v))

module _ (run : Run) (words : List ℕ) (i : ℕ) (v : Value) (f : Fits run words) where
  pub store_owned : (words' : List ℕ) → i < cells_of run → what words i % 4 ≢ 0 → Put v (1792 + 4 * i) words words' → BecameWords (λ σ. stored_at σ i v) run words run words'
  store_owned words' below ne put bytes =
      subst (λ (w : List ℕ). Became (λ σ. stored_at σ i v) run words bytes run w bytes) (sym put.stored)
      (became_as _ (λ σ. stored_at σ i v)
      (ap (λ (x : Cell). with_cells (set (store_of run words bytes).cells i x) (store_of run words bytes))
      (cell_held words i v ne put.back ∙ ap (holding v) (sym (cell_get run words bytes i below))))
      (one_anew cells_counted run words i (1792 + 4 * i) (slot_words v) f refl (omega arith) below bytes))

  -- nothing is stored in a head, nor past the last cell
  store_none : {n : ℕ} → There run words i (head n) → BecameWords (λ σ. stored_at σ i v) run words run words
  store_none there bytes =
      let σ = store_of run words bytes in
      record {
        store =
            sym (ap (λ (cs : List Cell). with_cells cs σ)
            (ap (λ (x : Cell). set σ.cells i (holding v x)) (there bytes) ∙ ap (set σ.cells i) (sym (there bytes)) ∙ set-get_or σ.cells i (head 0)));
        kept = kept_same f;
      }

  pub store_head : i < cells_of run → what words i % 4 ≡ 0 → BecameWords (λ σ. stored_at σ i v) run words run words
  store_head below e = store_none (head_there run words i below e)

  pub store_past : cells_of run ≤ i → BecameWords (λ σ. stored_at σ i v) run words run words
  store_past past = store_none (none_there run words i past)

-- ---- one cell more

pub cells_push : (n : ℕ) (words vs : List ℕ) → n < 1024 → 8192 ≤ length words → length vs ≡ 4 → cells_in (n + 1) (sets words (1792 + 4 * n) vs) ≡ cells_in n words ++ (cell_in vs ∷ [])
unfolding cells_in
cells_push n words vs below long four = view_push cell_in 1792 4 n words vs four (omega arith)

-- a value's two words, what the cell is, and its key
entry_stores : (words : List ℕ) (at x y z w : ℕ) → set (set (sets words at (x ∷ y ∷ [])) (at + 2) z) (at + 3) w ≡ sets words at (x ∷ y ∷ z ∷ w ∷ [])
entry_stores words at x y z w = ap₂ (λ (j k : ℕ). set (set (sets words at (x ∷ y ∷ [])) j z) k w) (add-two at) (add-three at)

entry_words : (owner key : ℕ) (v : Value) → value_of (slot_of v).kind (slot_of v).payload ≡ v → cell_in (slot_words v ++ (4 * owner + 2) ∷ key ∷ []) ≡ entry owner key v
unfolding cell_in
entry_words owner key v back = rw (what_kind owner 2 (omega arith), what_owner owner 2 (omega arith), back)

module _ (owner key : ℕ) (v : Value) (run : Run) (words : List ℕ) (f : Fits run words) where
  pub enter_full : 1024 ≤ cells_of run → TriedWords false (field_entered owner key v) run words run words
  enter_full full bytes =
      refused (field_entered owner key v) f (rw (length-cells run words bytes, lt-leb (cells_of run + 1) 1024 (omega arith)))

  pub enter_made : (words' : List ℕ) → cells_of run < 1024 → Put v (1792 + 4 * cells_of run) words words'
      → TriedWords true (field_entered owner key v) run words (set_cells run (cells_of run + 1)) (set (set words' (1792 + 4 * cells_of run + 2) (4 * owner + 2)) (1792 + 4 * cells_of run + 3) key)
  enter_made words' below put bytes =
      let at = 1792 + 4 * cells_of run in
      let vs = slot_words v ++ (4 * owner + 2) ∷ key ∷ [] in
      subst (λ (w : List ℕ). Tried true (field_entered owner key v) run words bytes (set_cells run (cells_of run + 1)) w bytes)
      (sym (ap (λ (w : List ℕ). set (set w (at + 2) (4 * owner + 2)) (at + 3) key) put.stored ∙ entry_stores words at (slot_of v).payload (slot_of v).kind (4 * owner + 2) key))
      (made (field_entered owner key v) (λ σ. with_cells (σ.cells ++ (entry owner key v ∷ [])) σ)
      (rw (length-cells run words bytes, le-leb (cells_of run + 1) 1024 (omega arith)))
      (became_as _ (λ σ. with_cells (σ.cells ++ (entry owner key v ∷ [])) σ)
      (ap (λ (x : Cell). with_cells ((store_of run words bytes).cells ++ (x ∷ [])) (store_of run words bytes)) (entry_words owner key v put.back))
      (one_more cells_counted run words at vs f refl refl below bytes)))
