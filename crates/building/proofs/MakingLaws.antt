-- Cells taken all or none, and what vec and tuple make of their items. Assumes nothing.
use mathlib.Core.Path.{◌≡◌, refl, sym, ap, ◌∙◌}
use mathlib.Core.Bool.{Bool, true}
use mathlib.Core.List.{List, [], ◌++◌}
use mathlib.Core.Option.{some, none}
use Prim.Native.Nat.{ℕ, ◌+◌, ◌≤◌, ◌<◌}
use native.Mathlib.Omega.{arith}
use native.Mathlib.Nat.{add-zero}
use borrow.Author.Tests.{le-leb, lt-leb}
use lib.ListN.{length}
use lib.IntN.{ℤ}
use Rattle.std.specs.Prelude.{Some, Ok}
use Rattle.packed.specs.declared.layout.Header.{Header}
use Rattle.rules.specs.declared.Value.{Value}
use Rattle.rules.specs.declared.Value.TheVariants.{Unit as VUnit, Bool as VBool, Char, Unsigned, Signed, Float as VFloat, Text, Bytes, Vec, Tuple, Object}
use Rattle.rules.specs.Store.{Cell, Store, with_cells, taken_cells}
use Rattle.rules.specs.Building.{gives, boxed, printed}
use Rattle.boxes.proofs.CellLaws.{length-cells}
use Rattle.stores.specs.Stores.{cells_of, store_of, Tried, Makes}
use Rattle.boxes.specs.Cells.{items_taken}
use Rattle.building.specs.Making.{items_made}
use Rattle.numbers.specs.Decimal.{put_of, end_of}
use Rattle.numbers.proofs.DecimalLaws.{room}
use Rattle.stores.specs.declared.run.Run.{Run}

-- ---- cells are taken all or none

pub cells_taken : (σ : Store) (cs : List Cell) → length σ.cells + length cs ≤ 1024 → taken_cells σ cs ≡ some (with_cells (σ.cells ++ cs) σ)
cells_taken σ cs room = rw (le-leb (length σ.cells + length cs) 1024 room)

pub cells_refused : (σ : Store) (cs : List Cell) → 1024 < length σ.cells + length cs → taken_cells σ cs ≡ none
cells_refused σ cs over = rw (lt-leb (length σ.cells + length cs) 1024 over)

-- ---- vec and tuple

module _ (n from : ℕ) (run : Run) (words bytes : List ℕ) (run' : Run) (words' bytes' : List ℕ) where
  pub items_made_lem : Tried true (items_taken from) run words bytes run' words' bytes'
      → (box : ℕ → Value) → Makes (Ok (box (cells_of run))) (items_made box n from) run words bytes run' words' bytes'
  items_made_lem taken box =
      let σ = store_of run words bytes in
      record {
        did =
            ap (boxed n (box (length σ.cells))) taken.did
            ∙ ap (λ (k : ℕ). gives (box k) (store_of run' words' bytes')) (length-cells run words bytes);
        undone = λ r e. absurd (cc);
        kept = taken.kept;
      }

-- ---- template

-- what is no bool, no integer and no text prints nothing
pub prints_nothing : (image : List ℕ) (h : Header) (σ : Store) (v : Value) → ((b : Bool) → v ≡ VBool b → ⊥) → ((z : ℤ) → v ≡ Signed z → ⊥) → ((s l : ℕ) → v ≡ Text s l → ⊥) → printed image h σ v ≡ none
prints_nothing image h σ VUnit b z t = refl
prints_nothing image h σ (VBool x) b z t = absurd (b x refl)
prints_nothing image h σ (Char c) b z t = refl
prints_nothing image h σ (Unsigned x) b z t = refl
prints_nothing image h σ (Signed x) b z t = absurd (z x refl)
prints_nothing image h σ (VFloat x) b z t = refl
prints_nothing image h σ (Text s l) b z t = absurd (t s l refl)
prints_nothing image h σ (Bytes s l) b z t = refl
prints_nothing image h σ (Vec c) b z t = refl
prints_nothing image h σ (Tuple c) b z t = refl
prints_nothing image h σ (Object c) b z t = refl

-- nothing has room wherever there is such a place
pub puts_nothing : (at : ℕ) (bytes : List ℕ) → at ≤ length bytes → (Some at ≡ end_of bytes at []) × (bytes ≡ put_of bytes at [])
puts_nothing at bytes within =
    let put = room bytes at [] bytes (omega arith) refl in
    (ap Some (sym (add-zero at)) ∙ put.0, put.1)
