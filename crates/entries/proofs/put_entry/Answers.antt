-- `put_known`, `put_full` and `put_new`; what is found is one of the object's cells.
use native.Mathlib.Omega.{arith}
use Rattle.entries.proofs.EntryLaws.{found_within}
use Rattle.stores.proofs.FoundLaws.{found_some, found_none}
use Rattle.entries.proofs.EntryCells.{put_known, put_full, put_new}
use Rattle.entries.proofs.put_entry.Goals as goal

pub overflow_mul-i : goal.overflow_mul-i
overflow_mul-i c = let w = found_within _ _ _ _ _ _ _ (found_some _ _ c.in-Some.ensures) in omega arith

pub overflow_add-i : goal.overflow_add-i
overflow_add-i c = let w = found_within _ _ _ _ _ _ _ (found_some _ _ c.in-Some.ensures) in omega arith

pub copy_pending-requires : goal.copy_pending-requires
copy_pending-requires c =
    let w = found_within _ _ _ _ _ _ _ (found_some _ _ c.in-Some.ensures) in
    (c.requires.2, omega arith, omega arith)

pub returns-in-Some : goal.returns-in-Some
returns-in-Some c =
    let a = c.args in
    rw c.copy_pending.ensures
    (put_known a.image.now.bytes.now a.image.now.header a.key a.head a.end a.at a.words.now c.requires.0 c.requires.2 c.requires.3 _ c.requires.1 (found_some _ _ c.in-Some.ensures))

pub returns-then-end-ge-MOST_CELLS : goal.returns-then-end-ge-MOST_CELLS
returns-then-end-ge-MOST_CELLS c =
    let a = c.args in
    put_full a.image.now.bytes.now a.image.now.header a.key a.head a.end a.at a.words.now c.requires.0 c.requires.2 c.requires.3 (found_none _ c.in_default.ensures) (omega arith)

pub returns : goal.returns
returns c =
    let a = c.args in
    rw c.copy_pending-2.ensures
    (put_new a.image.now.bytes.now a.image.now.header a.key a.head a.end a.at a.words.now c.requires.0 c.requires.2 c.requires.3 (found_none _ c.in_default.ensures) (omega arith))
