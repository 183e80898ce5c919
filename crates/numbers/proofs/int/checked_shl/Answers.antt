-- `shift_operand` gives the operand or the refusal, and the word is shifted.
use Rattle.std.proofs.Common.{◌^◌, pos, ◌*ℤ◌, nat_abs, sym}
use mir.Facts.{to_z-of_z}
use Rattle.numbers.specs.Words.{word_of, int_of}
use Rattle.numbers.proofs.IntLaws.{Shift, shift}
use Rattle.numbers.proofs.WordLaws.{int_is, shifted}
use Rattle.numbers.proofs.int.checked_shl.Goals as goal

pub returns : goal.returns
returns c =
    let y = c.args.y in
    let by : Shift y c.in_ok-k.k = shift y c.in_ok-k.k (rw (to_z-of_z c.ranges.y) at (sym c.in_ok-k.ensures)) in
    rw (by.operand, by.bits, by.value (int_of (word_of (c.args.x *ℤ pos (2 ^ nat_abs y)))), int_is (word_of (c.args.x *ℤ pos (2 ^ nat_abs y))), shifted c.args.x (nat_abs y) c.ranges.x)
