-- The digits dropped, and those of what is left.
use Rattle.std.proofs.Common.{◌≡◌, ◌+◌, length}
use Rattle.numbers.specs.Decimal.{digits_of}
use Rattle.numbers.proofs.decimal.digits_len.Given as goal

abbrev pub invariant-loop-rest : goal.invariant-loop-rest
invariant-loop-rest l = l.len + length (digits_of l.rest) ≡ length (digits_of l.fn.n) + 1

abbrev pub decreases-loop-rest : goal.decreases-loop-rest
decreases-loop-rest l = l.rest
