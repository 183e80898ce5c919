-- The passes leave what the judging asks (`from_zeros`).
use Rattle.std.proofs.Common.{◌∙◌}
use Rattle.tree.specs.Tree.{namings}
use Rattle.tree.proofs.Counting.{added_then, zeros, from_zeros}
use Rattle.tree.proofs.lowest_fault.Goals as goal

pub survey-requires : goal.survey-requires
survey-requires c =
    let p = c.requires in
    (p.1.few, c.count_bodies.ensures.of_names.long ∙ c.bump.ensures.long ∙ zeros.long, zeros)

pub first_wrong-requires : goal.first_wrong-requires
unfolding namings
first_wrong-requires c =
    let p = c.requires in
    let counted = c.count_bodies.ensures in
    let surveyed = c.survey.ensures in (
      p.1,
      record {
        named = from_zeros (added_then (added_then c.bump.ensures counted.of_names) surveyed.of_names);
        as_body = from_zeros counted.of_bodies;
        chained = surveyed.of_chains;
      },
    )
