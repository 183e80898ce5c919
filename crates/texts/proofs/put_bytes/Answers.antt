-- `no_room`, `end_is`, `put_mid_is`.
use mathlib.Core.Path.{refl}
use native.Mathlib.Omega.{arith}
use Rattle.numbers.proofs.DecimalLaws.{no_room}
use Rattle.texts.proofs.TextLaws.{end_is, put_mid_is}
use Rattle.texts.proofs.put_bytes.Goals as goal

pub returns-then-not-has_room : goal.returns-then-not-has_room
returns-then-not-has_room c =
    let kept = no_room c.args.bytes.now c.args.at c.args.text.now (omega arith) in
    record { end = kept.0; bytes = kept.1 }

pub returns : goal.returns
returns c =
    let a = c.args in
    record {
      end = end_is a.bytes.now a.at a.text.now _ refl (omega arith);
      bytes = put_mid_is a.bytes.now a.at a.text.now _ _ c.copy_bytes.ensures (omega arith) (omega arith);
    }
