-- What a good record names is there.
use Rattle.std.proofs.Math.Nat.{le_trans}
use Rattle.tree.proofs.Roles.{named_le}
use Rattle.tree.proofs.Good.{good_node, fits_named}
use Rattle.tree.proofs.names_well.Goals as goal

pub goes-requires : goal.goes-requires
goes-requires c =
    let a = c.args in
    let good = good_node a.image.now.bytes.now a.image.now.header a.d c.requires in
    rw c.row_of-line.ensures (fits_named a.image.now.bytes.now a.image.now.header _ a.d.a good.a)

pub goes-requires-then-goes : goal.goes-requires-then-goes
goes-requires-then-goes c =
    let a = c.args in
    let good = good_node a.image.now.bytes.now a.image.now.header a.d c.requires in
    rw c.row_of-line.ensures (fits_named a.image.now.bytes.now a.image.now.header _ a.d.b good.b)

pub goes-requires-then-goes-2 : goal.goes-requires-then-goes-2
goes-requires-then-goes-2 c =
    let a = c.args in
    let good = good_node a.image.now.bytes.now a.image.now.header a.d c.requires in
    le_trans (named_le c.row_of.result.a a.d.next) good.next
