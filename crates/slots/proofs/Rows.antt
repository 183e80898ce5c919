-- Words stored in a row. Assumes nothing.
use mathlib.Core.Path.{◌≡◌, ap, ap₂, ◌∙◌}
use mathlib.Core.List.{List, [], ◌∷◌}
use Prim.Native.Nat.{ℕ, suc, ◌+◌}
use native.Mathlib.Numerals.{add-one, add-two, add-three}
use lib.ListN.{set}
use lib.Seq.{sets}

-- the stores of straight-line code are a run of stores
pub stores_2 : (l : List ℕ) (at x y : ℕ) → set (set l at x) (at + 1) y ≡ sets l at (x ∷ y ∷ [])
stores_2 l at x y = ap (λ (k : ℕ). set (set l at x) k y) (add-one at)

pub stores_3 : (l : List ℕ) (at x y z : ℕ) → set (set (set l at x) (at + 1) y) (at + 2) z ≡ sets l at (x ∷ y ∷ z ∷ [])
stores_3 l at x y z = ap₂ (λ (j k : ℕ). set (set (set l at x) j y) k z) (add-one at) (add-two at)

pub stores_4 : (l : List ℕ) (at w x y z : ℕ) → set (set (set (set l at w) (at + 1) x) (at + 2) y) (at + 3) z ≡ sets l at (w ∷ x ∷ y ∷ z ∷ [])
stores_4 l at w x y z = ap₂ (λ (j k : ℕ). set (set (set (set l at w) (at + 1) x) j y) k z) (add-two at) (add-three at) ∙ ap (λ (j : ℕ). set (set (set (set l at w) j x) (suc (suc at)) y) (suc (suc (suc at))) z) (add-one at)
