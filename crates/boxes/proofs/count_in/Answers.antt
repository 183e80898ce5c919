-- `count_head`, `count_owned` and `count_past`.
use Rattle.boxes.proofs.CellLaws.{count_head, count_owned, count_past}
use Rattle.boxes.proofs.count_in.Goals as goal
use Rattle.boxes.proofs.count_in.Goals.{else-owner-stores-via-then-owner-stores+else-stores-owner-eq0, else-owner-stores-via-else-owner-stores}

pub returns-then-stores-owner-eq0 : goal.returns-then-stores-owner-eq0
returns-then-stores-owner-eq0 c = count_head _ _ _ c.if-owner-stores.true c.if-stores-owner-eq0.true

pub returns : goal.returns
returns c =
    elim c.else-owner-stores.branch [
      | else-owner-stores-via-then-owner-stores+else-stores-owner-eq0 w ↦ count_owned _ _ _ w.if-owner-stores.true w.if-stores-owner-eq0.false
      | else-owner-stores-via-else-owner-stores w ↦ count_past _ _ _ w.if-owner-stores.false
    ]
