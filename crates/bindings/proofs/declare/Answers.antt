-- `declare_again`, `declare_full` and `declare_new`; the binding that is found is one of those that there are.
use native.Mathlib.Omega.{arith}
use Rattle.bindings.proofs.ScopeLaws.{found_below, declare_again, declare_full, declare_new}
use Rattle.bindings.proofs.declare.Goals as goal

pub overflow_mul-at : goal.overflow_mul-at
overflow_mul-at c = omega (arith, found_below _ _ _ _ _ c.in-Some.ensures)

pub put_slot-requires : goal.put_slot-requires
put_slot-requires c = omega (arith, found_below _ _ _ _ _ c.in-Some.ensures)

pub returns-in-Some-clause-store : goal.returns-in-Some-clause-store
returns-in-Some-clause-store c = declare_again _ _ _ _ c.args.stores.now.fits _ _ c.in-Some.ensures c.put_slot.ensures _

pub returns-then-count-ge-MOST_BINDINGS-clause-store : goal.returns-then-count-ge-MOST_BINDINGS-clause-store
returns-then-count-ge-MOST_BINDINGS-clause-store c = declare_full _ _ _ _ c.args.stores.now.fits c.in_default.ensures c.if-count-ge-MOST_BINDINGS.true _

pub returns-clause-store : goal.returns-clause-store
returns-clause-store c = declare_new _ _ _ _ c.args.stores.now.fits c.in_default.ensures _ c.if-count-ge-MOST_BINDINGS.false c.put_slot-2.ensures _
