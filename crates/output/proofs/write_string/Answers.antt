-- A kind, and the text.
use Rattle.std.proofs.Common.{arith}
use Rattle.std.proofs.lemmas.Result.{err_from_is_err_and}
use Rattle.pouring.proofs.Places.{puts_then, puts_stop}
use Rattle.output.proofs.Steps.{puts_place}
use Rattle.output.proofs.Texts.{text_is}
use Rattle.output.proofs.write_string.Goals as goal

pub returns-in_err-spot : goal.returns-in_err-spot
returns-in_err-spot c =
    let p = err_from_is_err_and c.from_residual.result c.from_residual.ensures.1 in
    rw (p.1, p.2) (puts_stop _ c.in_err-spot.ensures)

pub write_text-requires : goal.write_text-requires
write_text-requires c = (omega (arith, c.args.stores.now.fits.text, c.args.stores.now.room), puts_place c.requires c.in_ok-spot.ensures)

pub returns : goal.returns
returns c =
    text_is c.args.image.now.bytes.now c.args.image.now.header c.args.stores.now.run.now c.args.stores.now.words.now c.args.stores.now.bytes.now c.args.start c.args.len
    (puts_then c.in_ok-spot.ensures c.write_text.ensures)
