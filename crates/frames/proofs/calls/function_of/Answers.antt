-- The tag of a call is a function's number.
use Rattle.outcomes.proofs.NodeLaws.{node_there, as_node, call_names}
use Rattle.frames.proofs.calls.function_of.Goals as goal

pub node-node-requires : goal.node-node-requires
node-node-requires c = node_there (as_node c.requires)

pub function-requires : goal.function-requires
function-requires c = rw c.node-node.ensures (call_names c.requires)
