use Rattle.std.proofs.Common.{◌<◌, get_or, arith}
use Rattle.pouring.proofs.Pouring.{pours_filled}
use Rattle.pouring.proofs.fill.Goals as goal

pub returns : goal.returns
returns c =
    let a = c.args in
    let byte : get_or a.out.now a.at 0 < 256 = omega arith in
    pours_filled a.out.now a.at a.used a.width a.x c.with_bits.result c.requires.0 byte c.requires.1 c.requires.2 c.requires.3 c.with_bits.ensures
