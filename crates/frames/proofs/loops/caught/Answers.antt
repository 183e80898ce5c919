-- The break goes on, is refused, or ends the loop.
use Rattle.std.proofs.Common.{inl, inr}
use Rattle.outcomes.proofs.NodeLaws.{node_there}
use Rattle.frames.proofs.LoopLaws.{goes_on, refused_value, loop_ended}
use Rattle.frames.proofs.loops.caught.Goals as goal
use Rattle.frames.proofs.loops.caught.Goals.{else-inner-ne0-via-then-inner-ne0+else-outer-ne0, else-inner-ne0-via-else-inner-ne0}

pub node-outer-requires : goal.node-outer-requires
node-outer-requires c = node_there c.requires.0

pub node-inner-requires : goal.node-inner-requires
node-inner-requires c = node_there c.requires.1

pub returns-then-inner-outer-clause-store : goal.returns-then-inner-outer-clause-store
returns-then-inner-outer-clause-store c = goes_on c.args.v c.args.scope c.args.from c.args.stores.now.fits _ _ c.node-outer.ensures c.node-inner.ensures c.requires.1 c.if-inner-outer.true

pub returns-then-outer-ne0-clause-store : goal.returns-then-outer-ne0-clause-store
returns-then-outer-ne0-clause-store c =
    refused_value c.args.v c.args.scope c.args.from c.args.stores.now.fits _ _ c.node-outer.ensures c.node-inner.ensures c.if-inner-outer.false
    c.if-inner-ne0.true c.if-outer-ne0.true

pub returns-clause-store : goal.returns-clause-store
returns-clause-store c =
    loop_ended c.args.v c.args.scope c.args.from c.args.stores.now.fits _ _ c.node-outer.ensures c.node-inner.ensures c.if-inner-outer.false
    (elim c.else-inner-ne0.branch [
      | else-inner-ne0-via-then-inner-ne0+else-outer-ne0 w ↦ inr w.if-outer-ne0.false
      | else-inner-ne0-via-else-inner-ne0 w ↦ inl w.if-inner-ne0.false
    ])
    c.break_out.ensures.store
