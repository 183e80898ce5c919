-- Both are nodes of the image.
use Rattle.outcomes.proofs.NodeLaws.{node_there}
use Rattle.items.proofs.item_node.Goals as goal

pub node-node-requires : goal.node-node-requires
node-node-requires c = node_there c.requires.0

pub node-entry-requires : goal.node-entry-requires
node-entry-requires c = node_there c.requires.1
