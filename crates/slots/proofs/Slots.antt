-- The laws of a value in two words: it is read back as it was. Assumes nothing.
use mathlib.Core.Path.{◌≡◌, refl, ap, ap₂, ◌∙◌}
use mathlib.Core.Bool.{Bool, true, false, cond}
use Prim.Native.Nat.{ℕ, ◌+◌, ◌*◌, ◌/◌, ◌%◌, ◌^◌, ◌<◌}
use native.Mathlib.Nat.{mod-eq_of_lt}
use native.Mathlib.Omega.{arith}
use mir.Val.{bool_byte}
use Rattle.numbers.proofs.RoundTrips.{int_word_int, float_word_float}
use Rattle.rules.specs.declared.Value.{Value}
use Rattle.rules.specs.declared.Value.TheVariants.{Bool as VBool, Char, Signed, Float as VFloat, Text, Bytes}
use Rattle.rules.specs.Building.{literal_of}
use Rattle.numbers.specs.Words.{word_of}
use Rattle.numbers.specs.Floats.{float_word_of}
use Rattle.slots.specs.Slot.{value_of}
use lib.IntN.{ℤ}
use lib.Ieee.{Float, fits, binary64}
use lib.Dec.{T}
use mir.Syntax.{w64}
use mir.Val.{SFits}

pub bit_is : (b : Bool) → bool_byte b ≡ cond b 1 0
bit_is true = refl
bit_is false = refl

start_of_part : (start length : ℕ) → start < 2 ^ 32 → length < 2 ^ 16 → (start * 2 ^ 16 + length) / 2 ^ 16 % 2 ^ 32 ≡ start
start_of_part start length p q =
    let high : (start * 2 ^ 16 + length) / 2 ^ 16 ≡ start = omega arith in
    ap (λ (n : ℕ). n % 2 ^ 32) high ∙ mod-eq_of_lt p

length_of_part : (start length : ℕ) → length < 2 ^ 16 → (start * 2 ^ 16 + length) % 2 ^ 16 ≡ length
length_of_part start length q = omega arith

-- each value comes back from its two words

pub bool_back : (b : Bool) → value_of 1 (cond b 1 0) ≡ VBool b
unfolding value_of literal_of
bool_back true = refl
bool_back false = refl

pub signed_back : (z : ℤ) → SFits w64 z → value_of 3 (word_of z) ≡ Signed z
unfolding value_of literal_of
signed_back z h = ap Signed (int_word_int z h)

pub float_back : (x : Float) → T (fits binary64 x) → value_of 4 (float_word_of x) ≡ VFloat x
unfolding value_of literal_of
float_back x h = ap VFloat (float_word_float x h)

pub char_back : (c : ℕ) → c < 2 ^ 32 → value_of 5 c ≡ Char c
unfolding value_of literal_of
char_back c h = ap Char (mod-eq_of_lt h)

pub text_back : (start length : ℕ) → start < 2 ^ 32 → length < 2 ^ 16 → value_of 6 (start * 2 ^ 16 + length) ≡ Text start length
unfolding value_of literal_of
text_back start length p q = ap₂ Text (start_of_part start length p q) (length_of_part start length q)

pub bytes_back : (start length : ℕ) → start < 2 ^ 32 → length < 2 ^ 16 → value_of 7 (start * 2 ^ 16 + length) ≡ Bytes start length
unfolding value_of literal_of
bytes_back start length p q = ap₂ Bytes (start_of_part start length p q) (length_of_part start length q)

pub handle_back : (kind c : ℕ) (make : ℕ → Value) → c < 2 ^ 32 → value_of kind c ≡ make (c % 2 ^ 32) → value_of kind c ≡ make c
handle_back kind c make h e = e ∙ ap make (mod-eq_of_lt h)
