-- `copied`.
use Rattle.entries.proofs.EntryCells.{copied}
use Rattle.entries.proofs.copy_pending.Goals as goal

pub returns : goal.returns
returns c = copied _ _ _ c.requires.0 c.requires.1 c.requires.2
