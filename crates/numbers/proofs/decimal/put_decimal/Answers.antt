-- The digits of the magnitude before the end, and the sign, where there is one, before them.
use Rattle.std.proofs.Common.{arith}
use mir.Facts.{to_z-of_z}
use Rattle.numbers.specs.Decimal.{decimal_of}
use Rattle.numbers.proofs.DecimalLaws.{put_neg, put_pos, room, no_room}
use Rattle.numbers.proofs.decimal.put_decimal.Goals as goal

pub returns-then-out-len : goal.returns-then-out-len
returns-then-out-len c =
    let len = rw (to_z-of_z c.ranges.x) at c.decimal_len-len.ensures.0 in
    let r = no_room c.args.out.now c.args.at (decimal_of c.args.x) (omega arith) in
    record { end = r.0; bytes = r.1 }

pub returns-then-out-len-2 : goal.returns-then-out-len-2
returns-then-out-len-2 c =
    let len = rw (to_z-of_z c.ranges.x) at c.decimal_len-len.ensures.0 in
    let r = no_room c.args.out.now c.args.at (decimal_of c.args.x) (omega arith) in
    record { end = r.0; bytes = r.1 }

pub returns-then-x-lt0 : goal.returns-then-x-lt0
returns-then-x-lt0 c =
    let x = to_z-of_z c.ranges.x in
    let len = rw x at c.decimal_len-len.ensures.0 in
    let r =
    room c.args.out.now c.args.at (decimal_of c.args.x) _ (omega arith)
    (put_neg c.args.x c.args.out.now c.put_digits.new.out c.args.at (rw x at c.if-x-lt0.true)
    (rw (len, rw x at c.unsigned_abs.ensures.value) at c.put_digits.ensures)) in
    rw len (record { end = r.0; bytes = r.1 })

pub returns-else-x-lt0 : goal.returns-else-x-lt0
returns-else-x-lt0 c =
    let x = to_z-of_z c.ranges.x in
    let len = rw x at c.decimal_len-len.ensures.0 in
    let r =
    room c.args.out.now c.args.at (decimal_of c.args.x) _ (omega arith)
    (put_pos c.args.x c.args.out.now c.put_digits.new.out c.args.at (rw x at c.if-x-lt0.false)
    (rw (len, rw x at c.unsigned_abs.ensures.value) at c.put_digits.ensures)) in
    rw len (record { end = r.0; bytes = r.1 })
