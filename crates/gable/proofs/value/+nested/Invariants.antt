-- The levels fall with each call.
use Rattle.gable.proofs.value.+nested.Given as goal

abbrev pub decreases-nested : goal.decreases-nested
decreases-nested l = l.levels
