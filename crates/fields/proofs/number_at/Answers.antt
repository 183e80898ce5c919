-- What has been read so far is the field of as many bytes, with room after it for those that are left; each byte comes in its place (`byte_put`).
use Rattle.std.proofs.Common.{◌≡◌, ◌-◌, ◌*◌, ap, ◌∙◌, bit_or, arith}
use Rattle.fields.specs.Field.{field_of}
use Rattle.fields.proofs.Laws.{byte_put, field_below, byte_fits}
use Rattle.fields.proofs.number_at.Goals as goal

pub loop-i-init : goal.loop-i-init
unfolding field_of
loop-i-init g c = omega arith

pub up-number-requires : goal.up-number-requires
up-number-requires g c = (omega arith, byte_fits c.loop-i.i g.row.N _ c.loop-i-test.true c.requires.0 (omega arith))

pub loop-i-preserved : goal.loop-i-preserved
loop-i-preserved g c =
    ap (bit_or c.loop-i.number) c.up-number.ensures
    ∙ byte_put _ _ c.loop-i.i g.row.N _ _ c.loop-i-test.true (omega arith) c.loop-i.invariant c.from.ensures

pub returns : goal.returns
returns g c =
    let done : c.loop-i.i ≡ g.row.N = omega arith in
    let none : 8 * (g.row.N - c.loop-i.i) ≡ 0 = omega arith in
    let all : c.loop-i.number ≡ field_of c.args.bytes.now (8 * c.args.at) (8 * g.row.N) = rw (c.loop-i.invariant, none, done) (omega arith) in
    (all, rw all (field_below _ _ _))
