-- The laws of an i64 and its word, and of a word's shift.
use mathlib.Core.Path.{◌≡◌, refl, sym, ap, ◌∙◌}
use mathlib.Core.Bool.{Bool, true, false, cond}
use Prim.Native.Nat.{ℕ, zero, suc, ◌+◌, ◌-◌, ◌*◌, ◌%◌, ◌^◌, ◌<◌}
use native.Mathlib.Nat.{add-mul}
use native.Mathlib.Omega.{arith}
use lib.Dec.{ltb}
use lib.IntN.{ℤ, pos, negsuc, neg_ℤ, ◌*ℤ◌}
use mir.Syntax.{w64}
use mir.Val.{SFits, to_z, of_z, sel}
use Rattle.numbers.specs.Words.{word_of, int_of}

-- ---- the definitions are the machine's

pub word_is : (x : ℤ) → SFits w64 x → word_of x ≡ of_z w64 x
word_is (pos a) f = omega (arith, f.sfits)
word_is (negsuc a) f = omega (arith, f.sfits)

pub int_is : (w : ℕ) → int_of w ≡ to_z w64 w
unfolding int_of
int_is w = go (ltb w (2 ^ 63))
  where
    go : (t : Bool) → cond t (pos w) (negsuc (2 ^ 64 - suc w)) ≡ sel t (pos w) (negsuc (2 ^ 64 - suc w))
    go true = refl
    go false = refl

-- ---- a shifted word

-- what is left of a number that lies s below a multiple of 2 ^ 64
below_multiple : (a b s : ℕ) → a + s ≡ 2 ^ 64 * b → a % 2 ^ 64 ≡ word_of (neg_ℤ (pos s))
below_multiple a b zero e = omega arith
below_multiple a b (suc t) e = omega arith

-- the bits of -(n + 1) times p are those of -(n + 1) * p
wrap_neg : (n p : ℕ) → n < 2 ^ 64 → ((2 ^ 64 - suc n) * p) % 2 ^ 64 ≡ word_of (neg_ℤ (pos (suc n * p)))
wrap_neg n p h =
    below_multiple ((2 ^ 64 - suc n) * p) p (suc n * p)
    (sym (add-mul (2 ^ 64 - suc n) (suc n) p) ∙ ap (λ (k : ℕ). k * p) (omega arith))

pub shifted : (x : ℤ) (k : ℕ) → SFits w64 x → (of_z w64 x * 2 ^ k) % 2 ^ 64 ≡ word_of (x *ℤ pos (2 ^ k))
shifted (pos a) k f = refl
shifted (negsuc a) k f = wrap_neg a (2 ^ k) (omega (arith, f.sfits))
