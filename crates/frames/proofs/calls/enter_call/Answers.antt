-- Too many or too few arguments, a body that begins, and no room for its bindings.
use Rattle.std.proofs.Common.{sym, ◌∙◌}
use Rattle.frames.proofs.CallLaws.{wrong_number, not_bound, body_begun}
use Rattle.frames.proofs.calls.enter_call.Goals as goal

pub returns-then-pending_since-from-clause-store : goal.returns-then-pending_since-from-clause-store
returns-then-pending_since-from-clause-store c =
    wrong_number c.requires c.args.stores.now.fits c.args.from _ c.function_of-function.ensures _ c.pending_since.ensures
    (λ e. c.if-pending_since-from.true (e ∙ sym c.from.ensures))

pub returns-then-bind_arguments-clause-store : goal.returns-then-bind_arguments-clause-store
returns-then-bind_arguments-clause-store c =
    body_begun c.requires c.args.stores.now.fits c.args.from _ c.function_of-function.ensures _ c.pending_since.ensures
    (c.if-pending_since-from.false ∙ c.from.ensures) c.bind_arguments.ensures.store c.if-bind_arguments.true

pub returns-clause-store : goal.returns-clause-store
returns-clause-store c =
    not_bound c.requires c.args.stores.now.fits c.args.from _ c.function_of-function.ensures _ c.pending_since.ensures
    (c.if-pending_since-from.false ∙ c.from.ensures) c.bind_arguments.ensures.store c.if-bind_arguments.false
