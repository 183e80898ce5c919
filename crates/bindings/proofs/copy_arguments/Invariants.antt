use Rattle.bindings.specs.Scopes.{Copied}
use Rattle.bindings.proofs.copy_arguments.Given as goal

abbrev pub invariant-loop-i : goal.invariant-loop-i
invariant-loop-i l = Copied l.bound l.first l.from l.i l.fn.words l.words
