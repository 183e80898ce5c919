-- `signeds`.
use mir.Facts.{to_z-of_z}
use mir.Syntax.{w64}
use mir.Val.{SFits}
use borrow.Author.Rules.{rules}
use Rattle.binary.proofs.BinaryLaws.{signeds}
use Rattle.binary.proofs.binary_of.Goals as goal

pub returns-clause-store : goal.returns-clause-store
returns-clause-store c =
    let x : SFits w64 c.in-Signed.x = search rules in
    let y : SFits w64 c.in-Signed-right.y = search rules in
    rw (c.of_numbers.ensures, c.binary_int.ensures, to_z-of_z x, to_z-of_z y)
    (signeds _ _ _ _ c.node-node.ensures c.in-Signed.is c.in-Signed-right.is c.args.stores.now.fits)
