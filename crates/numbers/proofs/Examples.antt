-- Worked examples of the definitions, which compute.
use mathlib.Core.Path.{◌≡◌, refl}
use mathlib.Core.Bool.{true, false}
use mathlib.Core.List.{[], ◌∷◌}
use lib.Dec.{lit<}
use lib.IntN.{pos, negsuc}
use lib.Ieee.{nan, of_bits, is_nan}
use Rattle.numbers.specs.declared.ArithRefusal.TheVariants.{Overflow, Division, ShiftOperand}
use Rattle.std.specs.Prelude.{Ok, Err}
use Rattle.numbers.specs.declared.OpError.TheVariants.{Arithmetic, NotConst, Unlisted}
use Rattle.numbers.specs.declared.Number.TheVariants.{Bool}
use Rattle.numbers.specs.Words.{int_of}
use Rattle.numbers.specs.Ints.{number_of, least, greatest, assign_of, binary_int_of}
use Rattle.numbers.specs.Floats.{binary_float_of, float_word_of, float_of}
use Rattle.numbers.specs.Decimal.{digits, digits_of, decimal_of}
use Rattle.numbers.proofs.DecimalLaws.{digits_by}

-- the greatest i64 + 1 is 16
sum_past : assign_of 0 greatest (pos 1) ≡ Err (Arithmetic Overflow)
unfolding assign_of
sum_past = refl

overflow_is : number_of Overflow ≡ 16
overflow_is = refl

-- the least i64 / -1 is 17, and 7 / -2 is -3
least_over : assign_of 3 least (negsuc 0) ≡ Err (Arithmetic Division)
unfolding assign_of
least_over = refl

division_is : number_of Division ≡ 17
division_is = refl

toward_zero : assign_of 3 (pos 7) (negsuc 1) ≡ Ok (negsuc 2)
unfolding assign_of
toward_zero = refl

-- 1 << 63 is the least i64, 1 << 64 is 16, 1 << -1 and 1 << 4294967296 are 18
shift_63 : assign_of 4 (pos 1) (pos 63) ≡ Ok least
unfolding assign_of int_of
shift_63 = refl

shift_64 : assign_of 4 (pos 1) (pos 64) ≡ Err (Arithmetic Overflow)
unfolding assign_of
shift_64 = refl

shift_below : assign_of 4 (pos 1) (negsuc 0) ≡ Err (Arithmetic ShiftOperand)
unfolding assign_of
shift_below = refl

shift_above : assign_of 5 (pos 1) (pos 4294967296) ≡ Err (Arithmetic ShiftOperand)
unfolding assign_of
shift_above = refl

shift_operand_is : number_of ShiftOperand ≡ 18
shift_operand_is = refl

-- -7 >> 1 is -4, and the least i64 << 1 is 0
sign_kept : assign_of 5 (negsuc 6) (pos 1) ≡ Ok (negsuc 3)
unfolding assign_of
sign_kept = refl

bits_dropped : assign_of 4 least (pos 1) ≡ Ok (pos 0)
unfolding assign_of int_of
bits_dropped = refl

-- no assigning op is 6, where a binary one is <
not_listed : assign_of 6 (pos 1) (pos 2) ≡ Err Unlisted
unfolding assign_of
not_listed = refl

less : binary_int_of 6 (negsuc 0) (pos 0) ≡ Ok (Bool true)
unfolding binary_int_of
less = refl

-- a NaN is not equal to itself, a shift of floats is not const, and every NaN is one word
nan_apart : binary_float_of 8 nan nan ≡ Ok (Bool false)
unfolding binary_float_of lib.Ieee.eq
nan_apart = refl

float_shift : binary_float_of 4 nan nan ≡ Err NotConst
unfolding binary_float_of
float_shift = refl

one_nan : float_word_of (float_of 0xffff_ffff_ffff_ffff) ≡ 0x7ff8_0000_0000_0000
unfolding float_word_of of_bits is_nan
one_nan = refl

-- -1205 and the least i64 in decimal
some_digits : decimal_of (negsuc 1204) ≡ 45 ∷ 49 ∷ 50 ∷ 48 ∷ 53 ∷ []
unfolding digits digits_of
some_digits = refl

least_digits : decimal_of least ≡ 45 ∷ 57 ∷ 50 ∷ 50 ∷ 51 ∷ 51 ∷ 55 ∷ 50 ∷ 48 ∷ 51 ∷ 54 ∷ 56 ∷ 53 ∷ 52 ∷ 55 ∷ 55 ∷ 53 ∷ 56 ∷ 48 ∷ 56 ∷ []
unfolding digits
least_digits = rw (digits_by 18 9223372036854775808 (lit< tt))
