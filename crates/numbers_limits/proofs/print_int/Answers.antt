-- The end that `put_decimal` gives lies within the array.
use Rattle.std.proofs.Common.{arith, sym}
use Rattle.std.proofs.lemmas.List.{length-take-le}
use Rattle.numbers.proofs.DecimalLaws.{ended}
use Rattle.numbers_limits.proofs.print_int.Goals as goal

pub slice_bounds-text-end : goal.slice_bounds-text-end
slice_bounds-text-end g c = omega (arith, (ended _ 0 _ c.in-Some.ensures.end).1, c.put_decimal.auto.out)

pub slice_bounds-write_all-end : goal.slice_bounds-write_all-end
slice_bounds-write_all-end g c =
    sym (length-take-le _ _ (omega (arith, (ended _ 0 _ c.in-Some.ensures.end).1, c.put_decimal.auto.out)))
