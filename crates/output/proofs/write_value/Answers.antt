-- What was measured is written.
use Rattle.std.proofs.Common.{arith}
use Rattle.std.proofs.lemmas.Result.{err_from_is_err_and}
use Rattle.output.proofs.Whole.{whole_at, wrote_none, wrote_placed, wrote_length}
use Rattle.output.proofs.write_value.Goals as goal

pub returns-in_err-write_any : goal.returns-in_err-write_any
returns-in_err-write_any c =
    let p = err_from_is_err_and c.from_residual.result c.from_residual.ensures.1 in
    rw (p.1, p.2) (wrote_none c.in_err-write_any.ensures)

pub returns-in_err-end : goal.returns-in_err-end
returns-in_err-end c = absurd (wrote_placed c.in_ok-write_any.ensures c.in_err-end.ensures)

pub length_at-requires : goal.length_at-requires
length_at-requires c = let here = whole_at c.in_ok-end.ensures in (here.small, omega (arith, here.within))

pub returns : goal.returns
returns c = wrote_length c.in_ok-write_any.ensures c.in_ok-end.ensures c.length_at.ensures
