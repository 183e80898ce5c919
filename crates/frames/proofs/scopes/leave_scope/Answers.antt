-- A value leaves the scope, and what is none passes.
use Rattle.std.proofs.Common.{refl}
use Rattle.rules.proofs.Moves.{scope_closed}
use Rattle.outcomes.proofs.Ways.{after_past}
use Rattle.frames.proofs.CallLaws.{value_left}
use Rattle.frames.proofs.scopes.leave_scope.Goals as goal

pub returns-in-Done-clause-store : goal.returns-in-Done-clause-store
returns-in-Done-clause-store c = value_left c.args.one c.args.one c.in-Done.is c.in-Done.is (λ image h l K σ. scope_closed) c.close.ensures.store

pub returns-in_default-clause-store : goal.returns-in_default-clause-store
returns-in_default-clause-store c = λ image h. after_past _ c.args.one refl c.in_default.not-Done c.args.stores.now.fits
