-- What it makes of the run's numbers.
use Rattle.stores.proofs.pending.drop_pending.Goals as goal

pub returns-clause-store : goal.returns-clause-store
returns-clause-store c = c.keep_pending.ensures _ _ c.args.stores.now.fits

pub invariant_of-stores-clause-fits : goal.invariant_of-stores-clause-fits
invariant_of-stores-clause-fits c = (c.keep_pending.ensures _ c.args.stores.now.bytes.now c.args.stores.now.fits).kept.fits
