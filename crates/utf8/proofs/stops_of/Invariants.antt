-- Each entry so far is right.
use Rattle.std.proofs.Common.{◌≡◌, length}
use Rattle.utf8.specs.Runs.{Stops}
use Rattle.utf8.proofs.stops_of.Given as goal

abbrev pub invariant-loop-block : goal.invariant-loop-block
invariant-loop-block l = (length l.stops ≡ 1024) × Stops l.bytes l.stops
