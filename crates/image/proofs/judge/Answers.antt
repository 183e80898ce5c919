-- What the tree's judging asks: the tests so far held, and no record is bad.
use Rattle.std.proofs.Common.{◌≡◌, None}
use Rattle.records.specs.Records.{bad_record}
use Rattle.tree.proofs.Below.{header_below}
use Rattle.records.proofs.GoodRecords.{node_good_lem}
use Rattle.image.proofs.judge.Goals as goal

pub lowest_fault-requires : goal.lowest_fault-requires
lowest_fault-requires c =
    let a = c.args in
    let b = header_below a.image.now a.h c.requires in
    let none : bad_record a.image.now a.h ≡ None = cc in
    (b.1, record { few = b.0; good = node_good_lem a.image.now a.h none })
