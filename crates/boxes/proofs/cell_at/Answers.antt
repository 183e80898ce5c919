-- `value_owned`, `value_head` and `value_past`.
use Rattle.boxes.proofs.CellLaws.{value_owned, value_head, value_past}
use Rattle.boxes.proofs.cell_at.Goals as goal
use Rattle.boxes.proofs.cell_at.Goals.{else-i-stores-via-then-i-stores+else-stores-i-ne0, else-i-stores-via-else-i-stores}

pub returns-then-stores-i-ne0 : goal.returns-then-stores-i-ne0
returns-then-stores-i-ne0 c = rw c.value_of.ensures (value_owned _ _ _ c.if-i-stores.true c.if-stores-i-ne0.true)

pub returns : goal.returns
returns c =
    elim c.else-i-stores.branch [
      | else-i-stores-via-then-i-stores+else-stores-i-ne0 w ↦ value_head _ _ _ w.if-i-stores.true w.if-stores-i-ne0.false
      | else-i-stores-via-else-i-stores w ↦ value_past _ _ _ w.if-i-stores.false
    ]
