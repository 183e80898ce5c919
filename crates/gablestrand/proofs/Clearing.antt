-- The first parts of the stores, filled with zeros. Assumes nothing.
use mathlib.Core.Path.{◌≡◌, refl, ap, ◌∙◌}
use mathlib.Core.List.{List, ◌∷◌, ◌++◌}
use Prim.Native.Nat.{ℕ, zero, suc, ◌≤◌}
use native.Mathlib.Omega.{arith}
use lib.ListN.{length, take, drop, replicate, length-take}
use Rattle.gablestrand.specs.Evaluate.{zeros, cleared}

zeros_are : (n : ℕ) → replicate n 0 ≡ zeros n
unfolding zeros
zeros_are zero = refl
zeros_are (suc n) = ap (λ (l : List ℕ). 0 ∷ l) (zeros_are n)

-- as many zeros as a first part is long, before what stood after it
pub filled : (n k : ℕ) (part l : List ℕ) → n ≤ length l → k ≡ length (take n l) → part ≡ replicate k 0 → part ++ drop n l ≡ cleared n l
unfolding cleared
filled n k part l within long e =
    let all : k ≡ n = omega (arith, length-take n l) in
    ap (λ (p : List ℕ). p ++ drop n l) (e ∙ ap (λ (m : ℕ). replicate m 0) all ∙ zeros_are n)
