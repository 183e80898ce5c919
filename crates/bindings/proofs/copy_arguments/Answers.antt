-- `copied_none` and `copied_more`.
use native.Mathlib.Omega.{arith}
use Rattle.bindings.proofs.ScopeLaws.{copied_none, copied_more}
use Rattle.bindings.proofs.copy_arguments.Goals as goal

pub loop-i-init : goal.loop-i-init
loop-i-init c = copied_none _ _ _ _

pub loop-i-preserved : goal.loop-i-preserved
loop-i-preserved c = copied_more _ _ _ _ _ _ (omega arith) (omega arith) (omega arith) c.loop-i.invariant
