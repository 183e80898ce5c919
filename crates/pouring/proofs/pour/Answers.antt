-- What has been poured so far is the number without its last bits, and each byte adds its part (`pours_more`).
use Rattle.std.proofs.Common.{refl, arith}
use Rattle.pouring.specs.Pouring.{bits_before}
use Rattle.pouring.proofs.Pouring.{pours_no_bits, pours_more, pours_rest}
use Rattle.pouring.proofs.pour.Goals as goal

pub loop-at-init : goal.loop-at-init
loop-at-init c =
    let a = c.args in
    record { small = omega arith; within = omega arith; at = refl; so_far = pours_no_bits (bits_before a.spot) a.width _ a.out.now }

pub loop-at-preserved : goal.loop-at-preserved
loop-at-preserved c =
    let l = c.loop-at in
    record {
      small = omega arith;
      within = omega arith;
      at = omega arith;
      so_far = pours_more c.args.width l.left _ c.args.x _ l.invariant.so_far c.fill.ensures (omega arith) (omega arith) (omega arith) c.cut.ensures.0;
    }

pub returns-then-left-gt0 : goal.returns-then-left-gt0
returns-then-left-gt0 c =
    let l = c.loop-at in
    pours_rest c.args.width l.left c.args.x _ l.invariant.so_far c.fill-then-left-gt0.ensures (omega arith) (omega arith) c.cut-then-left-gt0.ensures.0
