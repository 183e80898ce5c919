-- `item_refused`, `item_pending`, `pending_full`.
use Rattle.outcomes.proofs.NodeLaws.{node_there}
use Rattle.items.proofs.ItemLaws.{item_refused, item_pending, pending_full}
use Rattle.items.proofs.accept.Goals as goal

pub node-node-requires : goal.node-node-requires
node-node-requires c = node_there c.requires

pub returns-in-Err-clause-store : goal.returns-in-Err-clause-store
returns-in-Err-clause-store c = item_refused _ _ _ _ c.node-node.ensures c.judge.ensures c.in-Err.is c.args.stores.now.fits

pub returns-then-push-clause-store : goal.returns-then-push-clause-store
returns-then-push-clause-store c = item_pending _ _ _ _ c.node-node.ensures c.judge.ensures c.in_default.is c.push.ensures.store c.if-push.true

pub returns-clause-store : goal.returns-clause-store
returns-clause-store c = pending_full _ _ _ _ c.node-node.ensures c.judge.ensures c.in_default.is c.push.ensures.store c.if-push.false
