-- `target_given`.
use Rattle.outcomes.proofs.NodeLaws.{node_there, as_node, read_names}
use Rattle.leaves.proofs.LeafLaws.{target_given}
use Rattle.leaves.proofs.eval_read.Goals as goal

pub node-node-requires : goal.node-node-requires
node-node-requires c = node_there (as_node c.requires)

pub get_target-requires : goal.get_target-requires
get_target-requires c = rw c.node-node.ensures (read_names c.requires)

pub returns : goal.returns
returns c = rw c.from.ensures (target_given c.args.depth c.args.stores.now.fits c.requires _ c.node-node.ensures _ c.get_target.ensures)
