-- `key_entry`, `key_other` and `key_past`.
use Rattle.ordered.proofs.WordLaws.{key_entry, key_other, key_past}
use Rattle.ordered.proofs.key_at.Goals as goal
use Rattle.ordered.proofs.key_at.Goals.{else-i-stores-via-then-i-stores+else-stores-i-ge2, else-i-stores-via-else-i-stores}

pub returns-then-stores-i-ge2 : goal.returns-then-stores-i-ge2
returns-then-stores-i-ge2 c = key_entry _ _ _ c.if-i-stores.true c.if-stores-i-ge2.true

pub returns : goal.returns
returns c =
    elim c.else-i-stores.branch [
      | else-i-stores-via-then-i-stores+else-stores-i-ge2 w ↦ key_other _ _ _ w.if-i-stores.true w.if-stores-i-ge2.false
      | else-i-stores-via-else-i-stores w ↦ key_past _ _ _ w.if-i-stores.false
    ]
