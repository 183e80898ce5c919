-- One more byte (`pours_byte`).
use Rattle.std.proofs.Common.{arith}
use Rattle.pouring.proofs.Pouring.{pours_byte}
use Rattle.pouring.proofs.pour_bytes.Goals as goal

pub loop-i-preserved : goal.loop-i-preserved
loop-i-preserved c = pours_byte c.args.source.now c.loop-i.i c.loop-i.invariant c.pour_byte.ensures (omega arith) (omega arith)
