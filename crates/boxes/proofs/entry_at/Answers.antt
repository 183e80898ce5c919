-- `entry_here`, `entry_next` and `entry_missing`.
use Rattle.boxes.proofs.FieldLaws.{entry_here, entry_next, entry_missing}
use Rattle.boxes.proofs.entry_at.Goals as goal

pub returns-then-is_entry : goal.returns-then-is_entry
returns-then-is_entry c = entry_here _ _ _ _ _ _ _ c.loop-i-test.true c.loop-i.invariant c.if-is_entry.ensures

pub loop-i-preserved : goal.loop-i-preserved
loop-i-preserved c = entry_next _ _ _ _ _ _ _ c.loop-i-test.true c.loop-i.invariant c.if-is_entry.ensures

pub returns : goal.returns
returns c = entry_missing _ _ _ _ _ _ _ c.loop-i-test.false c.loop-i.invariant
