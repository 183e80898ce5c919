-- `after_past`.
use Rattle.operands.proofs.OperandLaws.{waiting_passes}
use Rattle.outcomes.proofs.Ways.{after_past}
use Rattle.operands.proofs.finish_operand.Goals as goal

pub returns-in_default-clause-store : goal.returns-in_default-clause-store
returns-in_default-clause-store c = after_past _ c.args.one (waiting_passes _ _) c.in_default.not-Done c.args.stores.now.fits
