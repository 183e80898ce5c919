-- The search goes on at n.
use Rattle.std.proofs.Common.{◌≡◌, ◌+◌, ◌-◌, ◌≤◌}
use Rattle.records.specs.First.{first_from}
use Rattle.tree.specs.Tree.{at_fault, lowest_fault}
use Rattle.tree.proofs.first_wrong.Given as goal

abbrev pub invariant-loop-n : goal.invariant-loop-n
invariant-loop-n l = (l.n ≤ 1 + l.image.header.nodes) × (lowest_fault l.image.bytes.now l.image.header ≡ first_from (at_fault l.image.bytes.now l.image.header) l.n (1 + l.image.header.nodes - l.n))
