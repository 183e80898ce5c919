-- Each step of the loop puts the last digit of what is left.
use Rattle.std.proofs.Common.{◌≡◌, ◌+◌, ◌-◌, ◌/◌, length, arith, ◌∙◌, refl}
use Rattle.numbers.specs.Decimal.{digits_of}
use Rattle.numbers.proofs.DecimalLaws.{digits_one, length-one, length_more, length_some, digit_first}
use Rattle.numbers.proofs.decimal.put_digits.Goals as goal

pub overflow_sub-at : goal.overflow_sub-at
overflow_sub-at c = omega (arith, length_some c.args.n)

pub loop-rest-init : goal.loop-rest-init
loop-rest-init c =
    let some = length_some c.args.n in
    (omega arith, omega arith, refl)

pub overflow_sub-at-in-loop-rest : goal.overflow_sub-at-in-loop-rest
overflow_sub-at-in-loop-rest c =
    let rest = c.loop-rest.rest in
    omega (arith, length_more rest (omega arith), length_some (rest / 10))

pub loop-rest-preserved : goal.loop-rest-preserved
loop-rest-preserved c =
    let l = c.loop-rest in
    let more = length_more l.rest (omega arith) in
    let some = length_some (l.rest / 10) in
    let here : l.at ≡ c.args.end - length (digits_of c.args.n) + length (digits_of (l.rest / 10)) = omega arith in
    (omega arith, omega arith, rw here (digit_first l.out _ l.rest (omega arith) ∙ l.invariant.2))

pub returns : goal.returns
returns c =
    let l = c.loop-rest in
    let one = length-one l.rest (omega arith) in
    let here : l.at ≡ c.args.end - length (digits_of c.args.n) = omega arith in
    rw here (rw (digits_one l.rest (omega arith)) at l.invariant.2)
