-- What the nodes below n name is counted, and what they say of chains is marked.
use Rattle.std.proofs.Common.{◌+◌, ◌-◌, ◌≤◌}
use Rattle.tree.specs.Tree.{node_names, chain_by, Added, Holds}
use Rattle.tree.proofs.survey.Given as goal

abbrev pub invariant-loop-n : goal.invariant-loop-n
invariant-loop-n l = (l.n ≤ 1 + l.image.header.nodes) × Added l.fn.names l.names (node_names l.image.bytes.now l.image.header (l.n - 1)) × Holds l.chains (chain_by l.image.bytes.now l.image.header (l.n - 1))
