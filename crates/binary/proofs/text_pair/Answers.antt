-- `joins`, for the words that stand by.
use Rattle.binary.proofs.BinaryLaws.{joins}
use Rattle.binary.proofs.text_pair.Goals as goal

pub join-requires : goal.join-requires
join-requires c = (c.args.stores.now.room, c.args.stores.now.fits.text)

pub returns-clause-store : goal.returns-clause-store
returns-clause-store c = joins _ _ _ _ c.node-node.ensures c.in-Text.is c.in-Text-right.is c.if-node-ne0.false (c.join.ensures _ c.args.stores.now.fits)
