-- The parts so far and those from here on are all.
use Rattle.std.proofs.Common.{◌≡◌, ◌+◌, ◌-◌, ◌≤◌}
use Rattle.tree.specs.Tree.{parts}
use Rattle.tree.proofs.parts.Given as goal

abbrev pub invariant-loop-count : goal.invariant-loop-count
invariant-loop-count l = (1 ≤ l.at) × (l.at ≤ l.image.header.nodes) × (parts l.image.bytes.now l.image.header 65 l.n ≡ l.count + parts l.image.bytes.now l.image.header (65 - l.count) l.at)
