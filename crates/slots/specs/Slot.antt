-- A value in two words: its kind, as literals and the output number it, and its payload, as a literal has it.
use Rattle.std.specs.Prelude.{ℕ, ◌+◌, ◌*◌, ◌%◌, ◌^◌, cond, eqb, ◌≡◌, List, [], ◌∷◌}
use Rattle.std.proofs.lemmas.List.Edits.{sets}
use Rattle.numbers.specs.Words.{word_of}
use Rattle.numbers.specs.Floats.{float_word_of}
use Rattle.rules.specs.Building.{literal_of}
use Rattle.rules.specs.declared.Value.{Value}
use Rattle.rules.specs.declared.Value.TheVariants.{Unit as VUnit, Bool as VBool, Char, Unsigned, Signed, Float, Text, Bytes, Vec, Tuple, Object}
use Rattle.slots.specs.declared.Slot.{Slot}

abbrev pub slot_of : Value → Slot
slot_of VUnit = record { kind = 0; payload = 0 }
slot_of (VBool b) = record { kind = 1; payload = cond b 1 0 }
slot_of (Unsigned x) = record { kind = 2; payload = x }
slot_of (Signed z) = record { kind = 3; payload = word_of z }
slot_of (Float x) = record { kind = 4; payload = float_word_of x }
slot_of (Char c) = record { kind = 5; payload = c }
slot_of (Text start length) = record { kind = 6; payload = start * 2 ^ 16 + length }
slot_of (Bytes start length) = record { kind = 7; payload = start * 2 ^ 16 + length }
slot_of (Vec c) = record { kind = 8; payload = c }
slot_of (Tuple c) = record { kind = 9; payload = c }
slot_of (Object c) = record { kind = 10; payload = c }

-- the two words of a value
abbrev pub slot_words : Value → List ℕ
slot_words v = (slot_of v).payload ∷ (slot_of v).kind ∷ []

-- the value of a kind and a payload: a literal's, or a handle
unfoldable pub value_of : ℕ → ℕ → Value
value_of kind payload =
    cond (eqb kind 8) (Vec (payload % 2 ^ 32))
    (cond (eqb kind 9) (Tuple (payload % 2 ^ 32))
    (cond (eqb kind 10) (Object (payload % 2 ^ 32)) (literal_of kind payload)))

-- a value written to two words, from which it is read back
pub record Put (v : Value) (at : ℕ) (words words' : List ℕ) : Type 0 where
  pub stored : words' ≡ sets words at (slot_words v)
  pub back : value_of (slot_of v).kind (slot_of v).payload ≡ v
