-- Each step of the loop drops a digit, of which there are no more than 20.
use Rattle.std.proofs.Common.{arith}
use Rattle.numbers.proofs.DecimalLaws.{length-one, length_more, length_some, length-below}
use Rattle.numbers.proofs.decimal.digits_len.Goals as goal

pub overflow_add-len : goal.overflow_add-len
overflow_add-len c = omega (arith, length-below 19 c.args.n (omega arith), length_some c.loop-rest.rest)

pub loop-rest-preserved : goal.loop-rest-preserved
loop-rest-preserved c = omega (arith, length_more c.loop-rest.rest (omega arith))

pub returns : goal.returns
returns c =
    let one = length-one c.loop-rest.rest (omega arith) in
    (omega arith, omega (arith, length-below 19 c.args.n (omega arith)))
