-- The writers meet their contracts, goal by goal.
use Rattle.std.proofs.Common.{refl, arith}
use Rattle.std.proofs.lemmas.Result.{err_from_is_err_and}
use Rattle.output.proofs.Steps.{puts_place, encodes_nested}
use Rattle.output.proofs.Texts.{key_puts}
use Rattle.output.proofs.Items.{items_start, items_more, items_stuck, items_all}
use Rattle.output.proofs.Entries.{entry_stuck, entry_value, entries_start, entries_none, entries_more, entries_stuck, entries_all}
use Rattle.output.proofs.Whole.{head_stuck, head_alone, head_items, head_object}
use Rattle.output.proofs.+writers.Goals as goal

pub write_any-returns-then-allowance-eq0 : goal.write_any-returns-then-allowance-eq0
write_any-returns-then-allowance-eq0 t c = encodes_nested c.if-allowance-eq0.true

pub write_any-returns-in_err-spot : goal.write_any-returns-in_err-spot
write_any-returns-in_err-spot t c =
    let p = err_from_is_err_and c.from_residual.result c.from_residual.ensures.1 in
    rw (p.1, p.2) (head_stuck c.args.v (omega arith) c.in_err-spot.ensures)

pub write_any-write_items-requires : goal.write_any-write_items-requires
write_any-write_items-requires t c = (omega arith, puts_place c.requires c.in_ok-spot.ensures)

pub write_any-write_entries-requires : goal.write_any-write_entries-requires
write_any-write_entries-requires t c = (omega arith, puts_place c.requires c.in_ok-spot.ensures)

pub write_any-returns-in-Vec : goal.write_any-returns-in-Vec
write_any-returns-in-Vec t c = head_items c.args.v (omega arith) c.in_ok-spot.ensures c.in-Vec.is c.write_items.ensures

pub write_any-returns-in-Object : goal.write_any-returns-in-Object
write_any-returns-in-Object t c = head_object c.args.v (omega arith) c.in_ok-spot.ensures c.in-Object.is c.write_entries.ensures

pub write_any-returns-in_default : goal.write_any-returns-in_default
write_any-returns-in_default t c = head_alone c.args.v (omega arith) c.in_ok-spot.ensures c.in_default.not-Vec c.in_default.not-Tuple c.in_default.not-Object

pub write_entries-loop-k-init : goal.write_entries-loop-k-init
write_entries-loop-k-init t c = entries_start c.requires

pub write_entries-returns-in_default : goal.write_entries-returns-in_default
write_entries-returns-in_default t c = absurd (entries_none c.loop-k.invariant c.count_entries-count.ensures c.loop-k-test.true c.in_default.ensures)

pub write_entries-returns-in_err-end : goal.write_entries-returns-in_err-end
write_entries-returns-in_err-end t c =
    let p = err_from_is_err_and c.from_residual.result c.from_residual.ensures.1 in
    rw (p.1, p.2) (entries_stuck c.loop-k.invariant c.in-Some.ensures c.in_err-end.ensures)

pub write_entries-loop-k-preserved : goal.write_entries-loop-k-preserved
write_entries-loop-k-preserved t c = entries_more c.loop-k.invariant c.in-Some.ensures c.in_ok-end.ensures

pub write_entries-returns : goal.write_entries-returns
write_entries-returns t c = entries_all c.loop-k.invariant c.count_entries-count.ensures (omega arith)

pub write_entry-returns-in_err-spot : goal.write_entry-returns-in_err-spot
write_entry-returns-in_err-spot t c =
    let p = err_from_is_err_and c.from_residual.result c.from_residual.ensures.1 in
    rw (p.1, p.2)
    (entry_stuck c.args.image.now.bytes.now c.args.stores.now.bytes.now c.key_at-key.ensures
    (key_puts c.args.image.now.bytes.now c.args.image.now.header c.args.stores.now.bytes.now c.key_at-key.result c.start_of.ensures c.length_of.ensures c.in_err-spot.ensures))

pub write_entry-write_any-requires : goal.write_entry-write_any-requires
write_entry-write_any-requires t c = (omega arith, puts_place c.requires c.in_ok-spot.ensures)

pub write_entry-returns : goal.write_entry-returns
write_entry-returns t c =
    entry_value c.args.image.now.bytes.now c.args.stores.now.bytes.now c.key_at-key.ensures
    (key_puts c.args.image.now.bytes.now c.args.image.now.header c.args.stores.now.bytes.now c.key_at-key.result c.start_of.ensures c.length_of.ensures c.in_ok-spot.ensures)
    c.cell_at-v.ensures c.write_any.ensures

pub write_items-loop-i-init : goal.write_items-loop-i-init
write_items-loop-i-init t c = items_start c.requires

pub write_items-returns-in_err-end : goal.write_items-returns-in_err-end
write_items-returns-in_err-end t c =
    let p = err_from_is_err_and c.from_residual.result c.from_residual.ensures.1 in
    rw (p.1, p.2) (items_stuck c.loop-i.invariant c.item_value-v.ensures c.in_err-end.ensures refl c.count_in-count.ensures c.loop-i-test.true)

pub write_items-loop-i-preserved : goal.write_items-loop-i-preserved
write_items-loop-i-preserved t c = items_more c.loop-i.invariant c.item_value-v.ensures c.in_ok-end.ensures

pub write_items-returns : goal.write_items-returns
write_items-returns t c = items_all c.loop-i.invariant refl c.count_in-count.ensures (omega arith)
