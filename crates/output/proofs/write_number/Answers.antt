-- One number after the other.
use Rattle.std.proofs.lemmas.Result.{err_from_is_err_and}
use Rattle.pouring.proofs.Places.{puts_then, puts_stop}
use Rattle.output.proofs.Steps.{puts_place}
use Rattle.output.proofs.write_number.Goals as goal

pub returns-in_err-spot : goal.returns-in_err-spot
returns-in_err-spot c =
    let p = err_from_is_err_and c.from_residual.result c.from_residual.ensures.1 in
    rw (p.1, p.2) (puts_stop _ c.in_err-spot.ensures)

pub put-requires-2 : goal.put-requires-2
put-requires-2 c = (puts_place c.requires.0 c.in_ok-spot.ensures, c.requires.1)

pub returns : goal.returns
returns c = puts_then c.in_ok-spot.ensures c.put-2.ensures
