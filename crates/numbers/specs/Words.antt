-- An i64 as a word of 64 bits, in two's complement.
use Rattle.std.specs.Prelude.{ℕ, suc, ◌-◌, ◌%◌, ◌^◌, cond, ltb, ℤ, pos, negsuc}

-- the low 64 bits of an integer: what is left of it by whole turns of 2 ^ 64. `negsuc n` is -(n + 1)
abbrev pub word_of : ℤ → ℕ
word_of (pos n) = n % 2 ^ 64
word_of (negsuc n) = 2 ^ 64 - suc (n % 2 ^ 64)

-- the integer that a word is as an i64
unfoldable pub int_of : ℕ → ℤ
int_of w = cond (ltb w (2 ^ 63)) (pos w) (negsuc (2 ^ 64 - suc w))
