-- `item_over`, `item_broken`.
use Rattle.items.proofs.ItemLaws.{item_over, item_broken}
use Rattle.items.proofs.finish_item.Goals as goal

pub returns-in-Done-clause-store : goal.returns-in-Done-clause-store
returns-in-Done-clause-store c = item_over c.in-Done.is c.accept.ensures.store

pub returns-in-Broke-clause-store : goal.returns-in-Broke-clause-store
returns-in-Broke-clause-store c = item_broken c.in-Broke.is c.drop_pending.ensures.store
