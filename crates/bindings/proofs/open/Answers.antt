-- `became_opened`.
use Rattle.bindings.proofs.ScopeLaws.{became_opened}
use Rattle.bindings.proofs.open.Goals as goal

pub returns-clause-store : goal.returns-clause-store
returns-clause-store c = became_opened _ _ _ c.args.stores.now.fits
