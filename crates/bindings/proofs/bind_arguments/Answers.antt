-- `arguments_refused` and `arguments_made`.
use native.Mathlib.Omega.{arith}
use Rattle.bindings.proofs.ScopeLaws.{arguments_refused, arguments_made}
use Rattle.bindings.proofs.bind_arguments.Goals as goal

pub returns-then-bound-count-gt-MOST_BINDINGS-clause-store : goal.returns-then-bound-count-gt-MOST_BINDINGS-clause-store
returns-then-bound-count-gt-MOST_BINDINGS-clause-store c = arguments_refused _ _ _ _ _ c.args.stores.now.fits c.pending_since-count.ensures (omega arith) _

pub returns-clause-store : goal.returns-clause-store
returns-clause-store c = arguments_made _ _ _ _ _ c.args.stores.now.fits c.pending_since-count.ensures _ (omega arith) c.copy_arguments.ensures _
