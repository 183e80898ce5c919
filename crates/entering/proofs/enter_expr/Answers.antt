-- The machine's way is that of the takes of the node's kind.
use Rattle.std.proofs.Common.{ap, ◌∙◌}
use Rattle.packed.specs.declared.layout.Node.{Node}
use Rattle.entering.proofs.EnterLaws.{takes_by, of_expression, entered_by}
use Rattle.entering.proofs.enter_expr.Goals as goal

pub returns-clause-store : goal.returns-clause-store
returns-clause-store c =
    let kinds = ap (λ (d : Node). takes_by d.kind) c.node-node.ensures in
    entered_by (of_expression _ _ _ _ _ (c.takes_of-takes.ensures ∙ kinds)) c.take.ensures _ c.args.stores.now.fits
