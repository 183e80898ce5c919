-- `item_found` and `item_missing`.
use Rattle.boxes.proofs.CellLaws.{item_found, item_missing}
use Rattle.boxes.proofs.item_at.Goals as goal

pub returns-then-index-count_in : goal.returns-then-index-count_in
returns-then-index-count_in c = item_found _ _ _ _ _ c.count_in.ensures c.if-index-count_in.true

pub returns : goal.returns
returns c = item_missing _ _ _ _ _ c.count_in.ensures c.if-index-count_in.false
