-- `int_of` is how the machine reads a word as an i64.
use mir.Facts.{of_z-to_z}
use Rattle.numbers.proofs.WordLaws.{int_is}
use Rattle.numbers.proofs.word.word_to_int.Goals as goal

pub returns : goal.returns
returns c = rw (int_is c.args.w, c.cast_signed.ensures, of_z-to_z c.ranges.w)
