-- The operations on two float operands, each rounded once as IEEE 754 binary64, and a float's word.
use Rattle.std.specs.Prelude.{cond, ℕ, eqb, leb, Float, Result, Ok, Err}
use Rattle.std.specs.Float.{binary64}
use Rattle.std.specs.Float.Ieee.{add, sub, mul, div, lt, le, eq, is_nan, to_bits, of_bits}
use Rattle.numbers.specs.declared.Number.{Number}
use Rattle.numbers.specs.declared.Number.TheVariants.{Float as NFloat, Bool as NBool}
use Rattle.numbers.specs.declared.OpError.{OpError}
use Rattle.numbers.specs.declared.OpError.TheVariants.{NotConst, Unlisted}

-- op 0–10: + - * / << >> < <= == > >=; all but shifts. A comparison with a NaN is false
unfoldable pub binary_float_of : ℕ → Float → Float → Result Number OpError
binary_float_of op x y =
    cond (eqb op 0) (Ok (NFloat (add binary64 x y)))
    (cond (eqb op 1) (Ok (NFloat (sub binary64 x y)))
    (cond (eqb op 2) (Ok (NFloat (mul binary64 x y)))
    (cond (eqb op 3) (Ok (NFloat (div binary64 x y)))
    (cond (leb op 5) (Err NotConst)
    (cond (eqb op 6) (Ok (NBool (lt x y)))
    (cond (eqb op 7) (Ok (NBool (le x y)))
    (cond (eqb op 8) (Ok (NBool (eq x y)))
    (cond (eqb op 9) (Ok (NBool (lt y x)))
    (cond (eqb op 10) (Ok (NBool (le y x))) (Err Unlisted))))))))))

-- a float's bits; every NaN is one word
unfoldable pub float_word_of : Float → ℕ
float_word_of x = cond (is_nan x) 0x7ff8_0000_0000_0000 (to_bits binary64 x)

-- the float that a word's bits are; all patterns of a NaN are the one NaN
abbrev pub float_of : ℕ → Float
float_of w = of_bits binary64 w
