-- `items_made_lem`.
use Rattle.building.proofs.MakingLaws.{items_made_lem}
use Rattle.building.proofs.make_items.Goals as goal

pub returns-then-take_items-clause-store : goal.returns-then-take_items-clause-store
returns-then-take_items-clause-store c = items_made_lem c.args.n c.args.from _ _ _ _ _ _ c.if-take_items.ensures.store
