-- Each value is read back from its two words.
use Rattle.std.proofs.Common.{refl, rules, FitsSigned, w64}
use mir.Facts.{to_z-of_z}
use Rattle.rules.specs.declared.Value.TheVariants.{Vec, Tuple, Object}
use Rattle.rules.specs.Building.{literal_of}
use Rattle.slots.specs.Slot.{value_of}
use Rattle.slots.proofs.Slots.{bit_is, bool_back, signed_back, float_back, char_back, text_back, bytes_back, handle_back}
use Rattle.slots.proofs.SlotFromValue.from.Goals as goal

pub returns-in-Unit : goal.returns-in-Unit
unfolding value_of literal_of
returns-in-Unit c = rw c.in-Unit.is (refl, refl)

pub returns-in-Bool : goal.returns-in-Bool
returns-in-Bool c = rw (c.in-Bool.is, c.from.ensures, bit_is) (refl, bool_back c.in-Bool.b)

pub returns-in-Unsigned : goal.returns-in-Unsigned
unfolding value_of literal_of
returns-in-Unsigned c = rw c.in-Unsigned.is (refl, refl)

pub returns-in-Signed : goal.returns-in-Signed
returns-in-Signed c =
    let f : FitsSigned w64 c.in-Signed.x = search rules in
    rw (c.in-Signed.is, c.int_to_word.ensures, to_z-of_z f) (refl, signed_back _ f)

pub returns-in-Float : goal.returns-in-Float
returns-in-Float c = rw (c.in-Float.is, c.float_to_word.ensures) (refl, float_back _ (search rules))

pub returns-in-Char : goal.returns-in-Char
returns-in-Char c = rw (c.in-Char.is, c.from-in-Char.ensures) (refl, char_back _ (search rules))

pub returns-in-Text : goal.returns-in-Text
returns-in-Text c = rw (c.in-Text.is, c.part.ensures) (refl, text_back _ _ (search rules) (search rules))

pub returns-in-Bytes : goal.returns-in-Bytes
returns-in-Bytes c = rw (c.in-Bytes.is, c.part-in-Bytes.ensures) (refl, bytes_back _ _ (search rules) (search rules))

pub returns-in-Vec : goal.returns-in-Vec
unfolding value_of
returns-in-Vec c = rw (c.in-Vec.is, c.from-in-Vec.ensures) (refl, handle_back 8 _ Vec (search rules) refl)

pub returns-in-Tuple : goal.returns-in-Tuple
unfolding value_of
returns-in-Tuple c = rw (c.in-Tuple.is, c.from-in-Tuple.ensures) (refl, handle_back 9 _ Tuple (search rules) refl)

pub returns-in-Object : goal.returns-in-Object
unfolding value_of
returns-in-Object c = rw (c.in-Object.is, c.from-in-Object.ensures) (refl, handle_back 10 _ Object (search rules) refl)
