-- `better_other`, `better_before` and `better_first`.
use Rattle.ordered.proofs.WordLaws.{better_other, better_before, better_first}
use Rattle.ordered.proofs.better_of.Goals as goal
use Rattle.ordered.proofs.better_of.Goals.{else-is_owned-via-then-is_owned+else-is_after, else-is_owned-via-else-is_owned}

pub returns-then-is_after : goal.returns-then-is_after
returns-then-is_after c = better_first _ _ _ _ _ _ _ _ c.requires _ c.if-is_owned.ensures c.if-is_after.ensures c.first_of.ensures

pub returns : goal.returns
returns c =
    elim c.else-is_owned.branch [
      | else-is_owned-via-then-is_owned+else-is_after w ↦ better_before _ _ _ _ _ _ _ _ c.requires w.if-is_owned.ensures w.if-is_after.ensures
      | else-is_owned-via-else-is_owned w ↦ better_other _ _ _ _ _ _ _ _ c.requires w.if-is_owned.ensures
    ]
