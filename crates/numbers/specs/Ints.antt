-- The operations on two signed operands, on the mathematical integers: the result, or the refusal.
use Rattle.std.specs.Prelude.{Result, Ok, Err, Bool, false, cond, ◌&&◌, ◌||◌, ℕ, ◌^◌, eqb, leb, ℤ, pos, negsuc, nat_abs, ◌+ℤ◌, ◌-ℤ◌, ◌*ℤ◌}
use Rattle.std.specs.Int.Signed.{lt_z, le_z, quot_z, shr_z}
use Rattle.numbers.specs.Words.{word_of, int_of}
use Rattle.numbers.specs.declared.ArithRefusal.{ArithRefusal}
use Rattle.numbers.specs.declared.ArithRefusal.TheVariants.{Overflow, Division, ShiftOperand}
use Rattle.numbers.specs.declared.OpError.{OpError}
use Rattle.numbers.specs.declared.OpError.TheVariants.{Arithmetic, Unlisted}
use Rattle.numbers.specs.declared.Number.{Number}
use Rattle.numbers.specs.declared.Number.TheVariants.{Signed, Bool as NBool}

-- the number of each arithmetic refusal
abbrev pub number_of : ArithRefusal → ℕ
number_of Overflow = 16
number_of Division = 17
number_of ShiftOperand = 18

-- -(2 ^ 63), and 2 ^ 63 - 1
abbrev pub least : ℤ
least = negsuc 9223372036854775807

abbrev pub greatest : ℤ
greatest = pos 9223372036854775807

abbrev pub in_i64 : ℤ → Bool
in_i64 z = le_z least z && le_z z greatest

abbrev pub eq_z : ℤ → ℤ → Bool
eq_z (pos a) (pos b) = eqb a b
eq_z (pos a) (negsuc b) = false
eq_z (negsuc a) (pos b) = false
eq_z (negsuc a) (negsuc b) = eqb a b

-- sums, differences and products outside i64 are an overflow
abbrev pub exact_of : ℤ → Result ℤ ArithRefusal
exact_of z = cond (in_i64 z) (Ok z) (Err Overflow)

abbrev pub add_of : ℤ → ℤ → Result ℤ ArithRefusal
add_of x y = exact_of (x +ℤ y)

abbrev pub sub_of : ℤ → ℤ → Result ℤ ArithRefusal
sub_of x y = exact_of (x -ℤ y)

abbrev pub mul_of : ℤ → ℤ → Result ℤ ArithRefusal
mul_of x y = exact_of (x *ℤ y)

-- zero divisors and the least i64 over -1 are refused; `quot_z` truncates toward zero
abbrev pub div_of : ℤ → ℤ → Result ℤ ArithRefusal
div_of x y = cond (eq_z y (pos 0) || (eq_z x least && eq_z y (negsuc 0))) (Err Division) (Ok (quot_z x y))

-- a shift operand below 0 or above 4,294,967,295 is refused as such, and one of 64 to 4,294,967,295 is an overflow
abbrev pub shift_of : ℤ → ℤ → Result ℤ ArithRefusal
shift_of y shifted =
    cond (lt_z y (pos 0) || lt_z (pos 4294967295) y) (Err ShiftOperand)
    (cond (le_z (pos 64) y) (Err Overflow) (Ok shifted))

-- left shifts drop high bits
abbrev pub shl_of : ℤ → ℤ → Result ℤ ArithRefusal
shl_of x y = shift_of y (int_of (word_of (x *ℤ pos (2 ^ nat_abs y))))

-- right shifts keep the sign; `shr_z` rounds down
abbrev pub shr_of : ℤ → ℤ → Result ℤ ArithRefusal
shr_of x y = shift_of y (shr_z x (2 ^ nat_abs y))

-- what a checked operation gives, where an op may have none
abbrev pub arith_of : Result ℤ ArithRefusal → Result ℤ OpError
arith_of (Ok z) = Ok z
arith_of (Err why) = Err (Arithmetic why)

-- op 0–5: + - * / << >>
unfoldable pub assign_of : ℕ → ℤ → ℤ → Result ℤ OpError
assign_of op x y =
    cond (eqb op 0) (arith_of (add_of x y))
    (cond (eqb op 1) (arith_of (sub_of x y))
    (cond (eqb op 2) (arith_of (mul_of x y))
    (cond (eqb op 3) (arith_of (div_of x y))
    (cond (eqb op 4) (arith_of (shl_of x y))
    (cond (eqb op 5) (arith_of (shr_of x y)) (Err Unlisted))))))

abbrev pub signed_of : Result ℤ OpError → Result Number OpError
signed_of (Ok z) = Ok (Signed z)
signed_of (Err e) = Err e

-- op 0–10: those of an assign, then < <= == > >=
unfoldable pub binary_int_of : ℕ → ℤ → ℤ → Result Number OpError
binary_int_of op x y =
    cond (leb op 5) (signed_of (assign_of op x y))
    (cond (eqb op 6) (Ok (NBool (lt_z x y)))
    (cond (eqb op 7) (Ok (NBool (le_z x y)))
    (cond (eqb op 8) (Ok (NBool (eq_z x y)))
    (cond (eqb op 9) (Ok (NBool (lt_z y x)))
    (cond (eqb op 10) (Ok (NBool (le_z y x))) (Err Unlisted))))))
