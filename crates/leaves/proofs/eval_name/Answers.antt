-- `name_bound`, `name_missing`.
use Rattle.outcomes.proofs.NodeLaws.{node_there, as_node}
use Rattle.leaves.proofs.LeafLaws.{name_bound, name_missing}
use Rattle.leaves.proofs.eval_name.Goals as goal

pub node-node-requires : goal.node-node-requires
node-node-requires c = node_there (as_node c.requires)

pub returns-in-Some : goal.returns-in-Some
returns-in-Some c =
    name_bound c.args.depth c.args.stores.now.fits c.requires _ c.node-node.ensures _ (c.in-Some.ensures) _ c.bound_at.ensures

pub returns-in-None : goal.returns-in-None
returns-in-None c = name_missing c.args.depth c.args.stores.now.fits c.requires _ c.node-node.ensures (c.in-None.ensures)
