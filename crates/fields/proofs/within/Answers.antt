-- The bits end within the bytes exactly if the bytes that they touch are there.
use Rattle.std.proofs.Common.{◌+◌, ◌*◌, ◌/◌, ◌%◌, length, arith}
use borrow.Author.Tests.{le-leb, lt-leb}
use Rattle.fields.specs.Field.{is_within}
use Rattle.fields.proofs.Tests.{same_leb}
use Rattle.fields.proofs.within.Goals as goal

pub returns-then-width-gt64 : goal.returns-then-width-gt64
unfolding is_within
returns-then-width-gt64 c = rw (lt-leb _ _ c.if-width-gt64.true)

pub returns : goal.returns
unfolding is_within
returns c =
    let a = c.args in
    rw (le-leb _ _ c.if-width-gt64.false)
    (same_leb (a.bit / 8 + (a.bit % 8 + a.width + 7) / 8) (length a.bytes.now) (a.bit + a.width) (8 * length a.bytes.now)
    (λ h. omega arith) (λ h. omega arith))
