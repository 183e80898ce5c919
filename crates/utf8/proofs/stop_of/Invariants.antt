-- The characters from here stop where those from the start do.
use Rattle.std.proofs.Common.{◌≡◌, ◌-◌, length}
use Rattle.utf8.specs.Runs.{stop_of}
use Rattle.utf8.proofs.stop_of.Given as goal

abbrev pub invariant-loop-at : goal.invariant-loop-at
invariant-loop-at l = stop_of l.bytes l.from ≡ stop_of l.bytes l.at

abbrev pub decreases-loop-at : goal.decreases-loop-at
decreases-loop-at l = length l.bytes - l.at
