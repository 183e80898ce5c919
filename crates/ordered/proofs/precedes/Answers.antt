-- `precedes_up` and `precedes_down`.
use Rattle.ordered.proofs.WordLaws.{precedes_up, precedes_down}
use Rattle.ordered.proofs.precedes.Goals as goal

pub returns-then-i-j : goal.returns-then-i-j
returns-then-i-j c = precedes_up _ _ _ _ _ _ _ _ _ c.key_at-a.ensures c.key_at-b.ensures c.if-i-j.true c.ascending_part.ensures

pub returns : goal.returns
returns c = precedes_down _ _ _ _ _ _ _ _ _ c.key_at-a.ensures c.key_at-b.ensures c.if-i-j.false c.ascending_part-2.ensures
