-- `no_entry`, `others_entry` and `its_entry`.
use mathlib.Core.Path.{sym, ◌∙◌}
use native.Mathlib.Omega.{arith}
use borrow.Author.Tests.{eqb-true, eqb-false, leb-true}
use Rattle.boxes.proofs.FieldLaws.{no_entry, others_entry, its_entry}
use Rattle.boxes.proofs.is_entry.Goals as goal
use Rattle.boxes.proofs.is_entry.Goals.{then-what-ge2, else-what-ge2}

pub returns-then-what-owner : goal.returns-then-what-owner
returns-then-what-owner c =
    elim c.if-what-ge2.branch [
      | then-what-ge2 w ↦ its_entry _ _ _ _ _ _ _ w.if-what-ge2.true (eqb-true _ _ (sym w.value-is ∙ c.if-what-owner.true)) c.same_part.ensures
      | else-what-ge2 w ↦ absurd (omega (arith, leb-true _ _ (sym w.value-is ∙ c.if-what-owner.true)))
    ]

pub returns-else-what-owner : goal.returns-else-what-owner
returns-else-what-owner c =
    elim c.if-what-ge2.branch [
      | then-what-ge2 w ↦ c.if-what-owner.false ∙ others_entry _ _ _ _ _ _ w.if-what-ge2.true (eqb-false _ _ (sym w.value-is ∙ c.if-what-owner.false))
      | else-what-ge2 w ↦ c.if-what-owner.false ∙ no_entry _ _ _ _ _ _ w.if-what-ge2.false
    ]
