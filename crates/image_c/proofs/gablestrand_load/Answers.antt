-- A place is below 2^20 and a number at most 4, so that nothing overflows.
use Rattle.std.proofs.Common.{arith, Err}
use Rattle.image_c.proofs.Places.{number_small, place_small}
use Rattle.image_c.proofs.gablestrand_load.Goals as goal

pub overflow_mul-result : goal.overflow_mul-result
overflow_mul-result c = omega (arith, c.place.ensures, place_small _ c.in-Err.ensures)

pub overflow_add-result : goal.overflow_add-result
overflow_add-result c =
    omega (arith, c.place.ensures, place_small _ c.in-Err.ensures, c.from.ensures, c.number.ensures, number_small (Err c.in-Err.refusal))
