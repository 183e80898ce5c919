-- A value leaves the call, and a break is refused.
use Rattle.std.proofs.Common.{refl}
use Rattle.rules.proofs.ItemMoves.{call_done}
use Rattle.outcomes.specs.declared.Outcome.TheVariants.{Done}
use Rattle.frames.proofs.CallLaws.{value_left, call_broken}
use Rattle.frames.proofs.calls.leave_call.Goals as goal

pub returns-in-Done-clause-store : goal.returns-in-Done-clause-store
returns-in-Done-clause-store c = value_left c.args.one (Done _) c.in-Done.is refl (λ image h l K σ. call_done) c.end_call.ensures.store

pub returns-in-Broke-clause-store : goal.returns-in-Broke-clause-store
returns-in-Broke-clause-store c = call_broken c.args.one c.in-Broke.is c.args.stores.now.fits
