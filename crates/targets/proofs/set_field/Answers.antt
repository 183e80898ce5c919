-- Its node is a field of an image that loads.
use mathlib.Core.Path.{ap, ◌∙◌}
use Rattle.packed.specs.declared.layout.Node.{Node}
use Rattle.targets.proofs.TargetNodes.{key_there}
use Rattle.targets.proofs.set_field.Goals as goal

pub key_of-requires : goal.key_of-requires
key_of-requires c = key_there _ _ _ c.requires.0 _ c.node-node.ensures (ap (λ (d : Node). d.kind) c.node-node.ensures ∙ c.requires.1)
