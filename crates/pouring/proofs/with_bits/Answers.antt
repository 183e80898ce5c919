-- The old bits that stay and the new ones make a byte (`filled_lt`).
use Rattle.std.proofs.Common.{◌<◌, arith}
use Rattle.pouring.specs.Pouring.{filled}
use Rattle.pouring.proofs.Bits.{filled_lt}
use Rattle.pouring.proofs.with_bits.Goals as goal

pub overflow_cast-result-4 : goal.overflow_cast-result-4
overflow_cast-result-4 c =
    let a = c.args in
    let byte : filled a.old a.used a.width a.x < 256 = filled_lt a.old a.used a.width a.x (omega arith) c.requires.0 c.requires.1 in
    rw c.from.ensures (omega arith)
