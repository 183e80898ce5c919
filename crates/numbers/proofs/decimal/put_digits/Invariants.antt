-- The digits of what is left, once put, make the whole.
use Rattle.std.proofs.Common.{◌≡◌, ◌+◌, ◌-◌, ◌<◌, length}
use Rattle.std.proofs.lemmas.List.Edits.{sets}
use Rattle.numbers.specs.Decimal.{digits_of}
use Rattle.numbers.proofs.decimal.put_digits.Given as goal

abbrev pub invariant-loop-rest : goal.invariant-loop-rest
invariant-loop-rest l =
    (l.at < l.fn.end)
    × (l.at + 1 ≡ l.fn.end - length (digits_of l.fn.n) + length (digits_of l.rest))
    × (sets l.out (l.fn.end - length (digits_of l.fn.n)) (digits_of l.rest) ≡ sets l.fn.out (l.fn.end - length (digits_of l.fn.n)) (digits_of l.fn.n))

abbrev pub decreases-loop-rest : goal.decreases-loop-rest
decreases-loop-rest l = l.rest
