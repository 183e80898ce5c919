-- What `nth` gives of the parts between the blanks.
use Rattle.std.proofs.Common.{rules, eqb}
use Rattle.std.proofs.lemmas.Iterator.Consumers.{nth_from_yields_List}
use Rattle.std.proofs.lemmas.Iterator.Splits.{YieldsList-from_slice_split}
use Rattle.worked.proofs.word.word.Goals as goal

pub returns-clause-part : goal.returns-clause-part
returns-clause-part c =
    nth_from_yields_List _ _ _ c.nth.ensures.ran
    (YieldsList-from_slice_split _ (λ b. eqb b 32) _ c.split.ensures.rest c.split.ensures.done c.split.ensures.closure (search rules))
