-- `next_start`, `next_turn` and `next_done`.
use native.Mathlib.Omega.{arith}
use Rattle.ordered.proofs.WordLaws.{next_start, next_turn, next_done}
use Rattle.ordered.proofs.next_entry.Goals as goal

pub loop-i-init : goal.loop-i-init
loop-i-init c = (omega arith, next_start _ _ _ _ _ _)

pub loop-i-preserved : goal.loop-i-preserved
loop-i-preserved c =
    let l = c.loop-i in
    (omega arith, next_turn _ _ _ _ _ _ _ _ _ c.loop-i-test.true l.invariant.0 l.invariant.1 c.better_of-best.ensures)

pub returns : goal.returns
returns c = next_done _ _ _ _ _ _ _ _ c.loop-i-test.false c.loop-i.invariant.1
