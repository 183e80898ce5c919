-- There and back between numbers and words. Every i64 has `SFits w64`, every f64 `fits binary64`, and every u64 `Fits w64`.
use mathlib.Core.Path.{◌≡◌, refl, ap, ◌∙◌}
use mathlib.Core.Bool.{Bool, true, false, cond}
use Prim.Native.Nat.{ℕ}
use lib.Dec.{T}
use lib.IntN.{ℤ}
use lib.Ieee.{Float, nan, inf, fin, binary64, fits, is_nan, nan_bits, to_bits, of_bits}
use lib.Ieee.Bits.{nan_bits_is, of_bits-to_bits, to_bits-of_bits}
use mir.Syntax.{w64}
use mir.Val.{SFits, Fits, to_z}
use mir.Facts.{to_z-of_z, of_z-to_z, sfits_to_z}
use Rattle.numbers.specs.Words.{word_of, int_of}
use Rattle.numbers.specs.Floats.{float_word_of, float_of}
use Rattle.numbers.proofs.WordLaws.{word_is, int_is}

pub int_word_int : (x : ℤ) → SFits w64 x → int_of (word_of x) ≡ x
int_word_int x f = int_is (word_of x) ∙ ap (to_z w64) (word_is x f) ∙ to_z-of_z f

pub word_int_word : (w : ℕ) → Fits w64 w → word_of (int_of w) ≡ w
word_int_word w f = ap word_of (int_is w) ∙ word_is (to_z w64 w) (sfits_to_z f) ∙ of_z-to_z f

pub float_word_float : (x : Float) → T (fits binary64 x) → float_of (float_word_of x) ≡ x
unfolding float_word_of is_nan to_bits
float_word_float nan f = of_bits-to_bits binary64 nan f
float_word_float (inf s) f = of_bits-to_bits binary64 (inf s) f
float_word_float (fin s m d) f = of_bits-to_bits binary64 (fin s m d) f

-- a NaN's pattern comes back as the one that is written
pub word_float_word : (w : ℕ) → Fits w64 w → float_word_of (float_of w) ≡ cond (nan_bits binary64 w) 0x7ff8_0000_0000_0000 w
unfolding float_word_of
word_float_word w f = rw (nan_bits_is binary64 w) (go (is_nan (of_bits binary64 w)) refl)
  where
    go : (t : Bool) → is_nan (of_bits binary64 w) ≡ t → cond t 0x7ff8_0000_0000_0000 (to_bits binary64 (of_bits binary64 w)) ≡ cond t 0x7ff8_0000_0000_0000 w
    go true e = refl
    go false e = to_bits-of_bits binary64 w f.fits (rw e tt)
