-- `operated`, `after_past`.
use mathlib.Core.Path.{refl, sym}
use Rattle.binary.proofs.BinaryLaws.{operated}
use Rattle.outcomes.proofs.Ways.{after_past}
use Rattle.binary.proofs.finish_binary.Goals as goal

pub returns-in_default-clause-store : goal.returns-in_default-clause-store
returns-in_default-clause-store c = after_past _ c.args.one refl c.in_default.not-Done c.args.stores.now.fits

pub returns-clause-store : goal.returns-clause-store
returns-clause-store c = operated c.in-Done.is c.binary_of.ensures.store (sym c.from.ensures)
