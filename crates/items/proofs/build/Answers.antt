-- `template_done`, `vec_done`, `tuple_done`, `object_done`.
use mathlib.Core.Path.{ap, ◌∙◌}
use Rattle.rules.specs.declared.Value.TheVariants.{Vec, Tuple}
use Rattle.rules.specs.Machine.{kinds, kind_of}
use Rattle.outcomes.specs.Outcomes.{got_of}
use Rattle.outcomes.proofs.NodeLaws.{node_there}
use Rattle.items.proofs.ItemLaws.{template_done, vec_done, tuple_done, object_done, boxed_is}
use Rattle.items.proofs.build.Goals as goal

pub node-node-requires : goal.node-node-requires
node-node-requires c = node_there c.requires.0

pub returns-in-6-clause-store : goal.returns-in-6-clause-store
unfolding kind_of kinds
returns-in-6-clause-store c = template_done _ c.node-node.ensures (ap kind_of c.in-6.is) c.make_template-made.ensures c.from.ensures

pub returns-in-13-clause-store : goal.returns-in-13-clause-store
returns-in-13-clause-store c =
    vec_done _ c.node-node.ensures _ c.in-13.is c.make_items.ensures.store (c.from-in-13.ensures ∙ ap got_of (boxed_is Vec _ _ c.map.ensures.cases))

pub returns-in-14-clause-store : goal.returns-in-14-clause-store
returns-in-14-clause-store c =
    tuple_done _ c.node-node.ensures _ c.in-14.is c.make_items-in-14.ensures.store (c.from-in-14.ensures ∙ ap got_of (boxed_is Tuple _ _ c.map-in-14.ensures.cases))

pub returns-in-15-clause-store : goal.returns-in-15-clause-store
unfolding kind_of kinds
returns-in-15-clause-store c = object_done _ c.node-node.ensures (ap kind_of c.in-15.is) (c.make_object.ensures _) c.from-in-15.ensures
