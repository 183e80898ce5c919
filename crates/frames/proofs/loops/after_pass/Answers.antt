-- A pass that is done, and a break that reaches the loop.
use Rattle.frames.proofs.LoopLaws.{pass_done, pass_broken}
use Rattle.frames.proofs.loops.after_pass.Goals as goal

pub returns-in-Done-clause-store : goal.returns-in-Done-clause-store
returns-in-Done-clause-store c = pass_done c.args.n c.args.scope c.args.from c.args.one c.in-Done.is c.args.stores.now.fits

pub returns-in-Broke-clause-store : goal.returns-in-Broke-clause-store
returns-in-Broke-clause-store c = pass_broken c.args.n c.args.scope c.args.from c.args.one c.in-Broke.is c.caught.ensures.store
