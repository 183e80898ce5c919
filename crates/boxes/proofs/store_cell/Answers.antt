-- `store_owned`, `store_head` and `store_past`.
use Rattle.boxes.proofs.CellLaws.{store_owned, store_head, store_past}
use Rattle.boxes.proofs.store_cell.Goals as goal
use Rattle.boxes.proofs.store_cell.Goals.{else-i-stores-via-then-i-stores+else-stores-i-ne0, else-i-stores-via-else-i-stores}

pub returns-then-stores-i-ne0-clause-store : goal.returns-then-stores-i-ne0-clause-store
returns-then-stores-i-ne0-clause-store c = store_owned _ _ _ _ c.args.stores.now.fits _ c.if-i-stores.true c.if-stores-i-ne0.true c.put_slot.ensures _

pub returns-else-i-stores-clause-store : goal.returns-else-i-stores-clause-store
returns-else-i-stores-clause-store c =
    elim c.else-i-stores.branch [
      | else-i-stores-via-then-i-stores+else-stores-i-ne0 w ↦ store_head _ _ _ _ c.args.stores.now.fits w.if-i-stores.true w.if-stores-i-ne0.false _
      | else-i-stores-via-else-i-stores w ↦ store_past _ _ _ _ c.args.stores.now.fits w.if-i-stores.false _
    ]
