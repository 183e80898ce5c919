-- `count_start`, `count_owned`, `count_other` and `count_done`.
use native.Mathlib.Omega.{arith}
use Rattle.ordered.proofs.WordLaws.{count_start, count_owned, count_other, count_done}
use Rattle.ordered.proofs.count_entries.Goals as goal
use Rattle.ordered.proofs.count_entries.Goals.{then-is_owned, else-is_owned}

pub loop-i-init : goal.loop-i-init
loop-i-init c = (omega arith, count_start _ _ _)

pub loop-i-preserved : goal.loop-i-preserved
loop-i-preserved c =
    let l = c.loop-i in
    let a = c.args in
    elim c.if-is_owned.branch [
      | then-is_owned w ↦
          (omega (arith, w.count-is), rw w.count-is (count_owned a.stores.now.run.now a.stores.now.words.now a.owner l.i l.count l.invariant.1 c.loop-i-test.true w.if-is_owned.ensures))
      | else-is_owned w ↦
          (omega (arith, w.count-is), rw w.count-is (count_other a.stores.now.run.now a.stores.now.words.now a.owner l.i l.count l.invariant.1 c.loop-i-test.true w.if-is_owned.ensures))
    ]

pub returns : goal.returns
returns c = count_done _ _ _ _ _ c.loop-i.invariant.1 c.loop-i-test.false (omega (arith, c.args.stores.now.fits.cells))
