-- `value_given`.
use Rattle.outcomes.proofs.NodeLaws.{node_there, as_node, value_names}
use Rattle.leaves.proofs.LeafLaws.{value_given}
use Rattle.leaves.proofs.eval_value.Goals as goal

pub node-node-requires : goal.node-node-requires
node-node-requires c = node_there (as_node c.requires)

pub literal_value-requires : goal.literal_value-requires
literal_value-requires c = rw c.node-node.ensures (value_names c.requires)

pub returns : goal.returns
returns c = value_given c.args.depth c.args.stores.now.fits c.requires _ c.node-node.ensures _ c.literal_value.ensures
