-- What the proof of a word's float needs: the patterns of a NaN.
use mathlib.Core.Path.{◌≡◌, refl, sym, ◌∙◌}
use mathlib.Core.Bool.{true, not, false≢true}
use Prim.Native.Nat.{ℕ, ◌%◌, ◌<◌, ◌≤◌}
use lib.Dec.{T}
use lib.Ieee.{Float, nan, inf, fin, binary64, is_nan, nan_bits, of_bits}
use lib.Ieee.Bits.{nan_bits_is, nan_bits_above}
use borrow.Author.Tests.{lt-ltb, le-ltb}

pub nan_is : of_bits binary64 0x7ff8_0000_0000_0000 ≡ nan
unfolding of_bits
nan_is = refl

-- a pattern is a NaN's where what is left of it without the sign is above an infinity's

is_nan_lem : (x : Float) → is_nan x ≡ true → x ≡ nan
unfolding is_nan
is_nan_lem nan e = refl
is_nan_lem (inf s) e = absurd (false≢true e)
is_nan_lem (fin s m d) e = absurd (false≢true e)

pub above : (w : ℕ) → 0x7ff0_0000_0000_0000 < w % 0x8000_0000_0000_0000 → of_bits binary64 w ≡ nan
above w h = is_nan_lem (of_bits binary64 w) (sym (nan_bits_is binary64 w) ∙ nan_bits_above binary64 w ∙ lt-ltb 0x7ff0_0000_0000_0000 (w % 0x8000_0000_0000_0000) h)

pub below : (w : ℕ) → w % 0x8000_0000_0000_0000 ≤ 0x7ff0_0000_0000_0000 → T (not (nan_bits binary64 w))
below w h = rw (nan_bits_above binary64 w, le-ltb 0x7ff0_0000_0000_0000 (w % 0x8000_0000_0000_0000) h) tt
