-- `copied_none` and `copied_more`.
use native.Mathlib.Omega.{arith}
use Rattle.boxes.proofs.ItemLaws.{copied_none, copied_more}
use Rattle.boxes.proofs.copy_items.Goals as goal

pub loop-n-init : goal.loop-n-init
loop-n-init c = copied_none _ _ _

pub loop-n-preserved : goal.loop-n-preserved
loop-n-preserved c = copied_more _ _ _ _ _ c.loop-n.invariant (omega arith) (omega arith) (omega arith)
