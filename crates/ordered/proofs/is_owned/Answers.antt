-- `not_owned` and `owned_by`.
use mathlib.Core.Path.{◌∙◌}
use borrow.Author.Tests.{lt-leb}
use Rattle.ordered.proofs.WordLaws.{not_owned, owned_by}
use Rattle.ordered.proofs.is_owned.Goals as goal

pub returns-then-what-ge2 : goal.returns-then-what-ge2
returns-then-what-ge2 c = owned_by _ _ _ c.if-what-ge2.true

pub returns-else-what-ge2 : goal.returns-else-what-ge2
returns-else-what-ge2 c = lt-leb 2 _ c.if-what-ge2.false ∙ not_owned _ _ _ c.if-what-ge2.false
