-- The digits of the magnitude, and a sign.
use Rattle.std.proofs.Common.{arith}
use mir.Facts.{to_z-of_z}
use Rattle.numbers.proofs.DecimalLaws.{length_neg, decimal_short}
use Rattle.numbers.proofs.decimal.decimal_len.Goals as goal

pub returns : goal.returns
returns c =
    let x = to_z-of_z c.ranges.x in
    let len = rw (c.unsigned_abs.ensures.value, x) at c.digits_len-digits.ensures.0 in
    omega (arith, length_neg c.args.x (rw x at c.if-x-ge0.false), decimal_short c.args.x c.ranges.x)
