-- What an operation on numbers gives, and the operation on both values with its first cases left out, by `binary_of` of the rules.
use Rattle.std.specs.Prelude.{ℕ, Result, Ok, Err, List}
use Rattle.packed.specs.declared.layout.Header.{Header}
use Rattle.numbers.specs.declared.ArithRefusal.{ArithRefusal}
use Rattle.numbers.specs.declared.ArithRefusal.TheVariants.{Overflow, Division, ShiftOperand}
use Rattle.numbers.specs.declared.Number.{Number}
use Rattle.numbers.specs.declared.Number.TheVariants.{Signed as NSigned, Float as NFloat, Bool as NBool}
use Rattle.numbers.specs.declared.OpError.{OpError}
use Rattle.numbers.specs.declared.OpError.TheVariants.{Arithmetic as ArithmeticError, NotConst as NotConstError, Unlisted}
use Rattle.rules.specs.declared.Value.{Value}
use Rattle.rules.specs.declared.Value.TheVariants.{Bool as VBool, Signed, Float as VFloat}
use Rattle.rules.specs.declared.Refusal.TheVariants.{NotConst, Arithmetic}
use Rattle.rules.specs.declared.Refused.{Refused}
use Rattle.rules.specs.Store.{Store, as_float, as_text}
use Rattle.rules.specs.Building.{Made, of_texts, of_floats}

-- "16, 17: binary; 18: right operand"
abbrev pub place_of : ℕ → ℕ → ArithRefusal → ℕ
place_of n right Overflow = n
place_of n right Division = n
place_of n right ShiftOperand = right

-- "Anything else is 12"
abbrev pub not_const : ℕ → Refused
not_const n = record { why = NotConst; place = n }

abbrev pub got_of_numbers : ℕ → ℕ → Result Number OpError → Result Value Refused
got_of_numbers n right (Ok (NSigned z)) = Ok (Signed z)
got_of_numbers n right (Ok (NFloat x)) = Ok (VFloat x)
got_of_numbers n right (Ok (NBool b)) = Ok (VBool b)
got_of_numbers n right (Err (ArithmeticError why)) = Err (record { why = Arithmetic why; place = place_of n right why })
got_of_numbers n right (Err NotConstError) = Err (not_const n)
got_of_numbers n right (Err Unlisted) = Err (not_const n)

-- the operation without the signed, and without the signed and the float, among its cases

module _ (image : List ℕ) (h : Header) (n : ℕ) (u v : Value) (σ : Store) where
  abbrev pub text_pair : Made
  text_pair = of_texts image h n σ (as_text u) (as_text v)

  abbrev pub float_pair : Made
  float_pair = of_floats image h n text_pair (as_float u) (as_float v) σ
