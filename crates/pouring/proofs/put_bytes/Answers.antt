-- Bytes are measured or poured where there is room.
use Rattle.std.proofs.Common.{length, ◌*◌, refl, sym, arith}
use borrow.Author.Tests.{leb-true, leb-false}
use Rattle.pouring.proofs.Written.{bytes_spell}
use Rattle.pouring.proofs.Places.{puts_no_room, puts_measured, puts_written}
use Rattle.pouring.proofs.put_bytes.Goals as goal
use Rattle.pouring.proofs.put_bytes.Goals.{then-writing, else-writing}

pub returns-then-not-has_room : goal.returns-then-not-has_room
returns-then-not-has_room c =
    let a = c.args in
    puts_no_room a.writing _ (8 * length a.source.now) _ _ a.out.now (bytes_spell a.source.now _ refl) (omega arith) (omega (arith, leb-false _ _ (sym c.if-not-has_room.ensures)))

pub returns : goal.returns
returns c =
    let a = c.args in
    let spells = bytes_spell a.source.now _ refl in
    let room = leb-true _ _ (sym c.if-not-has_room.ensures) in
    elim c.if-writing.branch [
      | then-writing w ↦ rw w.out-is (puts_written a.writing _ (8 * length a.source.now) _ _ a.out.now spells c.on.result (omega arith) room c.on.ensures w.if-writing.true _ w.pour_bytes.ensures)
      | else-writing w ↦ rw w.out-is (puts_measured a.writing _ (8 * length a.source.now) _ _ a.out.now spells c.on.result (omega arith) room c.on.ensures w.if-writing.false)
    ]
