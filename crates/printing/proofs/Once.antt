-- What `InBase` promises determines the page: a number has its fewest digits in one way. Assumes nothing.
use mathlib.Core.Path.{◌≡◌, refl, sym, ap, ◌∙◌}
use mathlib.Core.List.{[], ◌∷◌}
use Prim.Native.Nat.{ℕ, ◌-◌, ◌^◌, ◌≤◌, ◌<◌}
use native.Mathlib.Nat.{pow-le-pow_right}
use native.Mathlib.Omega.{arith}
use Rattle.io.specs.Digits.{last_digits, IsDigitCount}
use Rattle.printing.specs.Page.{Page, with_bytes, hex_of, InBase}

module _ (base least n : ℕ) (some : 0 < base) where
  no_more : (j k : ℕ) → IsDigitCount base least n j → IsDigitCount base least n k → j < k → ⊥
  no_more j k a b h =
      let low : base ^ (k - 1) ≤ n = b.2 (omega (arith, a.0)) in
      let up : base ^ j ≤ base ^ (k - 1) = pow-le-pow_right some (omega arith) in
      omega (arith, a.1)

  fewest_once : (j k : ℕ) → IsDigitCount base least n j → IsDigitCount base least n k → j ≡ k
  fewest_once j k a b =
      let x : ¬ (j < k) = no_more j k a b in
      let y : ¬ (k < j) = no_more k j b a in
      omega arith

  pub in_base_once : (p q r : Page) → InBase base least n p q → InBase base least n p r → q ≡ r
  in_base_once p q r a b =
      a.told
      ∙ ap (λ (k : ℕ). with_bytes p (last_digits base k n)) (fewest_once a.count b.count a.fewest b.fewest)
      ∙ sym b.told

-- so a byte has two hexadecimal digits
pub byte_in_two : (b : ℕ) → b < 256 → (n : ℕ) → n ≡ b → (p q : Page) → InBase 16 2 n p q → q ≡ with_bytes p (hex_of (b ∷ []))
unfolding hex_of
byte_in_two b small n e p q told =
    let two : IsDigitCount 16 2 b 2 = (omega arith, small, λ more. absurd (omega arith)) in
    in_base_once 16 2 b (omega arith) p q (with_bytes p (last_digits 16 2 b)) (rw e at told) (record { count = 2; fewest = two; told = refl })
