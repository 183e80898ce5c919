-- The items of a vec or tuple, one after the other. Assumes nothing.
use mathlib.Core.Path.{◌≡◌, refl, sym, ap, ◌∙◌, subst}
use mathlib.Core.Bool.{Bool}
use mathlib.Core.List.{List, [], ◌∷◌, ◌++◌}
use Prim.Native.Nat.{ℕ, zero, suc, ◌+◌, ◌-◌, ◌≤◌, ◌<◌}
use native.Mathlib.Nat.{add-zero, zero-add, suc-add}
use native.Mathlib.Numerals.{add-one}
use native.Mathlib.Omega.{arith}
use lib.ListN.{length, get_or, get_or-eq_default}
use Rattle.packed.specs.declared.layout.Header.{Header}
use Rattle.rules.specs.declared.Value.{Value}
use Rattle.rules.specs.declared.Value.TheVariants.{Unit as VUnit}
use Rattle.rules.specs.Store.{head, Store, count_in, value_in, cell_at}
use Rattle.rules.specs.Output.{Piece, within, items_from}
use Rattle.stores.specs.Stores.{store_of, Fits}
use Rattle.boxes.specs.Cells.{CellAt, CountIn}
use Rattle.boxes.proofs.CellLaws.{length-cells}
use Rattle.std.specs.Prelude.{Ok, Err}
use Rattle.pouring.specs.declared.Spot.{Spot}
use Rattle.pouring.specs.declared.NoPlace.{NoPlace}
use Rattle.pouring.specs.Pouring.{IsPlace}
use Rattle.output.specs.Writing.{Encodes, Writes, item_pieces}
use Rattle.output.proofs.Steps.{writes_none, writes_on, writes_stuck, writes_place, writes_value}
use Rattle.stores.specs.declared.run.Run.{Run}

-- the items from `at` on, so many, and then more
items_split : (image : List ℕ) (h : Header) (σ : Store) (i m at : ℕ) → items_from image h σ at (i + m) ≡ items_from image h σ at i ++ items_from image h σ (at + i) m
items_split image h σ zero m at = rw (zero-add, add-zero)
items_split image h σ (suc i) m at = rw suc-add (ap (λ (ps : List Piece). within (cell_at σ at) ∷ ps) (items_split image h σ i m (suc at) ∙ ap (λ (k : ℕ). items_from image h σ (suc at) i ++ items_from image h σ k m) (next at i)))
  where
    next : (a b : ℕ) → suc a + b ≡ a + suc b
    next a b = omega arith

-- past the last cell there is unit
pub past_cells : {run : Run} {words : List ℕ} (i : ℕ) → Fits run words → 1024 ≤ i → CellAt VUnit run words i
past_cells {run} {words} i fits far =
    record { is = λ bytes. ap value_in (sym (get_or-eq_default (store_of run words bytes).cells (head 0) (omega (arith, length-cells run words bytes, fits.cells)))) }

-- ---- the loop over the items: i of them are written

pub record ItemsDone (image : List ℕ) (h : Header) (run : Run) (words bytes : List ℕ) (first allowance : ℕ) (writing : Bool) (start : Spot) (out₀ : List ℕ) (i : ℕ) (end : Spot) (out : List ℕ) : Type 0 where
  pub place : IsPlace end out
  pub long : length out ≡ length out₀
  pub passed : Writes image h (store_of run words bytes) allowance writing start (items_from image h (store_of run words bytes) first i) out₀ out (Ok end)

module _ {image : List ℕ} {h : Header} {run : Run} {words bytes : List ℕ} {first n : ℕ} {writing : Bool} where
  pub items_start : {start : Spot} {out : List ℕ} → IsPlace start out → ItemsDone image h run words bytes first n writing start out 0 start out
  items_start here = record { place = here; long = refl; passed = writes_none here }

  module _ {start end : Spot} {i : ℕ} {out₀ out : List ℕ} {v : Value} (done : ItemsDone image h run words bytes first n writing start out₀ i end out)
      (value : CellAt v run words (first + i)) where
    abbrev σ : Store
    σ = store_of run words bytes

    -- the next item, and those after it
    item_then : (m : ℕ) → (within v ∷ []) ++ items_from image h σ (suc (first + i)) m ≡ items_from image h σ (first + i) (suc m)
    item_then m = ap (λ (x : Value). within x ∷ items_from image h σ (suc (first + i)) m) (value.is bytes)

    pub items_more : {t : Spot} {out₁ : List ℕ} → Encodes image h run words bytes v n writing end out out₁ (Ok t) → ItemsDone image h run words bytes first n writing start out₀ (i + 1) t out₁
    items_more {t} {out₁} one =
        let all : items_from image h σ first i ++ (within v ∷ []) ≡ items_from image h σ first (i + 1) =
        ap (λ (ps : List Piece). items_from image h σ first i ++ ps) (item_then 0) ∙ sym (items_split image h σ i 1 first) in
        record {
          place = writes_place done.place (writes_value one);
          long = one.is.long ∙ done.long;
          passed = subst (λ (ps : List Piece). Writes image h σ n writing start ps out₀ out₁ (Ok t)) all (writes_on done.passed (writes_value one));
        }

    pub items_stuck : {owner count : ℕ} {out₁ : List ℕ} {why : NoPlace} → Encodes image h run words bytes v n writing end out out₁ (Err why) → first ≡ owner + 1 → CountIn count run words owner → i < count
        → Writes image h σ n writing start (item_pieces image h σ owner) out₀ out₁ (Err why)
    items_stuck {owner} {count} {out₁} {why} one f c less =
        let m = count - i - 1 in
        let rest = items_from image h σ (suc (first + i)) m in
        let whole : i + suc m ≡ count = omega arith in
        let split : items_from image h σ first i ++ ((within v ∷ []) ++ rest) ≡ item_pieces image h σ owner =
        ap (λ (ps : List Piece). items_from image h σ first i ++ ps) (item_then m) ∙ sym (items_split image h σ i (suc m) first)
        ∙ ap (items_from image h σ first) whole ∙ ap (λ (k : ℕ). items_from image h σ k count) (f ∙ add-one owner) ∙ ap (items_from image h σ (suc owner)) (c.is bytes) in
        subst (λ (ps : List Piece). Writes image h σ n writing start ps out₀ out₁ (Err why)) split (writes_on done.passed (writes_stuck rest (writes_value one)))

  pub items_all : {start end : Spot} {i owner count : ℕ} {out₀ out : List ℕ} → ItemsDone image h run words bytes first n writing start out₀ i end out → first ≡ owner + 1
      → CountIn count run words owner → i ≡ count → Writes image h (store_of run words bytes) n writing start (item_pieces image h (store_of run words bytes) owner) out₀ out (Ok end)
  items_all {start} {end} {i} {owner} {count} {out₀} {out} done f c e =
      let σ = store_of run words bytes in
      let all : items_from image h σ first i ≡ item_pieces image h σ owner =
      ap (items_from image h σ first) (e ∙ c.is bytes) ∙ ap (λ (k : ℕ). items_from image h σ k (count_in (get_or σ.cells owner (head 0)))) (f ∙ add-one owner) in
      subst (λ (ps : List Piece). Writes image h σ n writing start ps out₀ out (Ok end)) all done.passed
