-- A call's measure is three times the nesting that is allowed, and a rank below three.
use Rattle.std.proofs.Common.{◌+◌, ◌*◌}
use Rattle.output.proofs.Items.{ItemsDone}
use Rattle.output.proofs.Entries.{EntriesDone}
use Rattle.output.proofs.+writers.Given as goal

abbrev pub decreases-write_any : goal.decreases-write_any
decreases-write_any l = 3 * l.allowance

abbrev pub decreases-write_entries : goal.decreases-write_entries
decreases-write_entries l = 3 * l.allowance + 2

abbrev pub decreases-write_entry : goal.decreases-write_entry
decreases-write_entry l = 3 * l.allowance + 1

abbrev pub decreases-write_items : goal.decreases-write_items
decreases-write_items l = 3 * l.allowance + 2

abbrev pub invariant-write_entries-loop-k : goal.invariant-write_entries-loop-k
invariant-write_entries-loop-k l = EntriesDone l.image.bytes.now l.image.header l.stores.run.now l.stores.words.now l.stores.bytes.now l.owner l.allowance l.writing l.fn.spot l.fn.out l._k l.end l.out l.last

abbrev pub invariant-write_items-loop-i : goal.invariant-write_items-loop-i
invariant-write_items-loop-i l = ItemsDone l.image.bytes.now l.image.header l.stores.run.now l.stores.words.now l.stores.bytes.now (l.owner + 1) l.allowance l.writing l.fn.spot l.fn.out l.i l.end l.out
