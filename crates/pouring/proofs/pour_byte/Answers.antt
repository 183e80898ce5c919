-- The byte's first part (`pours_more`), and the rest of it (`pours_rest`) where there is one (`pours_all`).
use Rattle.std.proofs.Common.{◌+◌, ◌*◌, ◌/◌, ◌^◌, arith}
use Rattle.pouring.proofs.Pouring.{pours_no_bits, pours_more, pours_rest, pours_all}
use Rattle.pouring.proofs.pour_byte.Goals as goal

pub returns-then-left-gt0 : goal.returns-then-left-gt0
returns-then-left-gt0 c =
    let a = c.args in
    let x = c.from-x.result in
    let none = pours_no_bits (8 * a.at + a.used) 8 (x / 2 ^ 8) a.out.now in
    let first = pours_more 8 8 _ x _ none c.fill.ensures (omega arith) (omega arith) (omega arith) c.cut.ensures.0 in
    rw c.from-x.ensures at (pours_rest 8 _ x _ first c.fill-then-left-gt0.ensures (omega arith) (omega arith) c.cut-then-left-gt0.ensures.0)

pub returns-else-left-gt0 : goal.returns-else-left-gt0
returns-else-left-gt0 c =
    let a = c.args in
    let x = c.from-x.result in
    let none = pours_no_bits (8 * a.at + a.used) 8 (x / 2 ^ 8) a.out.now in
    let first = pours_more 8 8 _ x _ none c.fill.ensures (omega arith) (omega arith) (omega arith) c.cut.ensures.0 in
    rw c.from-x.ensures at (pours_all 8 _ x (omega arith) first)
