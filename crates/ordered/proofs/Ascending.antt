-- The order of byte strings is total and transitive. Assumes nothing.
use mathlib.Core.Path.{◌≡◌, refl, sym, ◌∙◌}
use mathlib.Core.Logic.{◌⊎◌, inl, inr}
use mathlib.Core.Bool.{Bool, true, false, true≢false}
use mathlib.Core.List.{List, [], ◌∷◌}
use Prim.Native.Nat.{ℕ, ◌<◌}
use native.Mathlib.Decide.{ℕ_discrete, dec_lt}
use native.Mathlib.Omega.{arith}
use borrow.Author.Tests.{lt-ltb, le-ltb, eq-eqb, ne_eqb}
use Rattle.rules.specs.Output.{ascending}

-- by the first bytes or, where these are equal, by the rest
module _ (x y : ℕ) (xs ys : List ℕ) where
  less : x < y → ascending (x ∷ xs) (y ∷ ys) ≡ true
  less h = rw (lt-ltb x y h)

  more : y < x → ascending (x ∷ xs) (y ∷ ys) ≡ false
  more h = rw (le-ltb x y (omega arith), ne_eqb x y (λ e. absurd (omega (arith, e))))

  same : x ≡ y → ascending (x ∷ xs) (y ∷ ys) ≡ ascending xs ys
  same e = rw (le-ltb x y (omega arith), eq-eqb x y e)

  told : ascending (x ∷ xs) (y ∷ ys) ≡ true → (x < y) ⊎ ((x ≡ y) × (ascending xs ys ≡ true))
  told t = go (dec_lt x y) (ℕ_discrete x y)
    where
      go : Dec (x < y) → Dec (x ≡ y) → (x < y) ⊎ ((x ≡ y) × (ascending xs ys ≡ true))
      go (yes h) d = inl h
      go (no h) (yes e) = inr (e, sym (same e) ∙ t)
      go (no h) (no ne) = absurd (true≢false (sym t ∙ more (omega arith)))

pub ascending_total : (xs ys : List ℕ) → ascending xs ys ≡ false → ascending ys xs ≡ true
ascending_total [] ys f = absurd (true≢false f)
ascending_total (x ∷ xs) [] f = refl
ascending_total (x ∷ xs) (y ∷ ys) f = go (dec_lt y x) (ℕ_discrete x y) (ascending_total xs ys)
  where
    go : Dec (y < x) → Dec (x ≡ y) → (ascending xs ys ≡ false → ascending ys xs ≡ true) → ascending (y ∷ ys) (x ∷ xs) ≡ true
    go (yes h) d rest = less y x ys xs h
    go (no h) (yes e) rest = same y x ys xs (sym e) ∙ rest (sym (same x y xs ys e) ∙ f)
    go (no h) (no ne) rest = absurd (true≢false (sym (less x y xs ys (omega arith)) ∙ f))

pub ascending_trans : (xs ys zs : List ℕ) → ascending xs ys ≡ true → ascending ys zs ≡ true → ascending xs zs ≡ true
ascending_trans [] ys zs p q = refl
ascending_trans (x ∷ xs) [] zs p q = absurd (true≢false (sym p))
ascending_trans (x ∷ xs) (y ∷ ys) [] p q = absurd (true≢false (sym q))
ascending_trans (x ∷ xs) (y ∷ ys) (z ∷ zs) p q = go (told x y xs ys p) (told y z ys zs q) (ascending_trans xs ys zs)
  where
    go : (x < y) ⊎ ((x ≡ y) × (ascending xs ys ≡ true)) → (y < z) ⊎ ((y ≡ z) × (ascending ys zs ≡ true))
        → (ascending xs ys ≡ true → ascending ys zs ≡ true → ascending xs zs ≡ true) → ascending (x ∷ xs) (z ∷ zs) ≡ true
    go (inl h) (inl g) rest = less x z xs zs (omega arith)
    go (inl h) (inr g) rest = less x z xs zs (omega (arith, g.0))
    go (inr h) (inl g) rest = less x z xs zs (omega (arith, h.0))
    go (inr h) (inr g) rest = same x z xs zs (h.0 ∙ g.0) ∙ rest h.1 g.1

pub ascending_self : (xs : List ℕ) → ascending xs xs ≡ true
ascending_self xs = go (ascending xs xs) (ascending_total xs xs)
  where
    go : (b : Bool) → (b ≡ false → b ≡ true) → b ≡ true
    go true f = refl
    go false f = f refl
