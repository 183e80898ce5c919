-- The loop's invariant is `Entering`.
use Rattle.building.proofs.ChainLaws.{entry_there}
use Rattle.building.proofs.ObjectLaws.{entering_begins, items_end, chain_ends, entering_more, entering_full}
use Rattle.building.proofs.put_entries.Goals as goal

pub loop-at-init : goal.loop-at-init
loop-at-init c = rw c.node-i.ensures (entering_begins _ _ _ _ _ _ _ c.requires.1)

pub node-entry-requires : goal.node-entry-requires
node-entry-requires c =
    let there = entry_there _ _ _ c.requires.0 _ (c.loop-at.invariant.along c.if-i-eq0.false) in
    (there.0, there.1)

pub key_of-requires : goal.key_of-requires
key_of-requires c =
    let there = entry_there _ _ _ c.requires.0 _ (c.loop-at.invariant.along c.if-i-eq0.false) in
    rw c.node-entry.ensures there.2

pub returns-in_err-end : goal.returns-in_err-end
returns-in_err-end c =
    let put = rw (c.key_of.ensures, c.node-entry.ensures) at c.put_entry.ensures in
    rw c.from_residual.ensures
    (entering_full _ _ _ _ _ _ _ _ _ _ _ _ _ c.requires.0 c.loop-at.invariant c.if-i-eq0.false c.loop-at-test.true c.requires.2 put c.in_err-end.was)

pub loop-at-preserved : goal.loop-at-preserved
loop-at-preserved c =
    let put = rw (c.key_of.ensures, c.node-entry.ensures) at c.put_entry.ensures in
    rw (c.onward-i.ensures, c.node-entry.ensures)
    (entering_more _ _ _ _ _ _ _ _ _ _ _ _ _ c.requires.0 c.loop-at.invariant c.if-i-eq0.false c.loop-at-test.true c.requires.2 put _ c.in_ok-end.was)

pub returns-after-loop-at : goal.returns-after-loop-at
returns-after-loop-at c = items_end _ _ _ _ _ _ _ _ _ _ _ c.loop-at.invariant c.loop-at-test.false

pub returns-then-i-eq0 : goal.returns-then-i-eq0
returns-then-i-eq0 c = chain_ends _ _ _ _ _ _ _ _ _ _ _ c.loop-at.invariant c.if-i-eq0.true
