-- A length, then the bytes from the image and those that were built.
use Rattle.std.proofs.Common.{refl}
use Rattle.std.proofs.lemmas.Result.{err_from_is_err_and}
use Rattle.pouring.proofs.Places.{puts_then, puts_stop}
use Rattle.output.proofs.Steps.{puts_place}
use Rattle.output.proofs.Texts.{text_puts}
use Rattle.output.proofs.write_text.Goals as goal

pub returns-in_err-spot : goal.returns-in_err-spot
returns-in_err-spot c =
    let p = err_from_is_err_and c.from_residual.result c.from_residual.ensures.1 in
    rw (p.1, p.2) (text_puts c.args.image.now.bytes.now c.args.image.now.header c.args.bytes.now c.args.image.now.whole c.requires.0 c.sources_of-from.ensures refl refl (puts_stop _ c.in_err-spot.ensures))

pub put_bytes-requires : goal.put_bytes-requires
put_bytes-requires c = puts_place c.requires.1 c.in_ok-spot.ensures

pub returns-in_err-spot-2 : goal.returns-in_err-spot-2
returns-in_err-spot-2 c =
    let p = err_from_is_err_and c.from_residual-in_err-spot-2.result c.from_residual-in_err-spot-2.ensures.1 in
    rw (p.1, p.2)
    (text_puts c.args.image.now.bytes.now c.args.image.now.header c.args.bytes.now c.args.image.now.whole c.requires.0 c.sources_of-from.ensures c.of.ensures refl
    (puts_then c.in_ok-spot.ensures (puts_stop _ c.in_err-spot-2.ensures)))

pub put_bytes-requires-2 : goal.put_bytes-requires-2
put_bytes-requires-2 c = puts_place (puts_place c.requires.1 c.in_ok-spot.ensures) c.in_ok-spot-2.ensures

pub returns : goal.returns
returns c =
    text_puts c.args.image.now.bytes.now c.args.image.now.header c.args.bytes.now c.args.image.now.whole c.requires.0 c.sources_of-from.ensures c.of.ensures c.of-2.ensures
    (puts_then c.in_ok-spot.ensures (puts_then c.in_ok-spot-2.ensures c.put_bytes-2.ensures))
