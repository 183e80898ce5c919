-- A number is measured or poured where there is room.
use Rattle.std.proofs.Common.{sym, arith}
use borrow.Author.Tests.{leb-true, leb-false}
use Rattle.pouring.proofs.Written.{number_spells}
use Rattle.pouring.proofs.Places.{puts_no_room, puts_measured, puts_written}
use Rattle.pouring.proofs.put.Goals as goal
use Rattle.pouring.proofs.put.Goals.{then-writing, else-writing}

pub returns-then-not-has_room : goal.returns-then-not-has_room
returns-then-not-has_room c =
    let a = c.args in
    puts_no_room a.writing _ a.width _ _ a.out.now (number_spells a.width a.x) (omega arith) (omega (arith, leb-false _ _ (sym c.if-not-has_room.ensures)))

pub returns : goal.returns
returns c =
    let a = c.args in
    let spells = number_spells a.width a.x in
    let room = leb-true _ _ (sym c.if-not-has_room.ensures) in
    elim c.if-writing.branch [
      | then-writing w ↦ rw w.out-is (puts_written a.writing _ a.width _ _ a.out.now spells c.on.result (omega arith) room c.on.ensures w.if-writing.true _ w.pour.ensures)
      | else-writing w ↦ rw w.out-is (puts_measured a.writing _ a.width _ _ a.out.now spells c.on.result (omega arith) room c.on.ensures w.if-writing.false)
    ]
