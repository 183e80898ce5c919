-- `let_holds`, `let_done`, `after_none`.
use mathlib.Core.Path.{refl}
use Rattle.outcomes.proofs.NodeLaws.{node_there}
use Rattle.operands.proofs.OperandLaws.{let_done, let_holds, after_value}
use Rattle.outcomes.proofs.Ways.{after_past}
use Rattle.operands.proofs.finish_let.Goals as goal

pub returns-in_default-clause-store : goal.returns-in_default-clause-store
returns-in_default-clause-store c = after_past _ c.args.one refl c.in_default.not-Done c.args.stores.now.fits

pub node-node-requires : goal.node-node-requires
node-node-requires c = node_there c.requires

pub returns-then-node-eq0-clause-store : goal.returns-then-node-eq0-clause-store
returns-then-node-eq0-clause-store c = after_value c.in-Done.is (let_holds _ _ _ _ c.node-node.ensures c.args.stores.now.fits c.if-node-eq0.true)

pub returns-clause-store : goal.returns-clause-store
returns-clause-store c =
    after_value c.in-Done.is (let_done _ _ _ _ c.node-node.ensures c.if-node-eq0.false c.declare.ensures.store c.bound.ensures)
