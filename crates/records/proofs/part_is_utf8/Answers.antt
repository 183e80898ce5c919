-- The part of the text is the part of the image.
use Rattle.std.proofs.Common.{ap, ◌∙◌}
use Rattle.utf8.specs.Utf8.{utf8_of}
use Rattle.records.proofs.Texts.{text_part}
use Rattle.records.proofs.part_is_utf8.Goals as goal

pub returns : goal.returns
returns c =
    let p = c.args.p in
    c.is_utf8.ensures ∙ rw (c.from-from.ensures, c.from.ensures, c.text.ensures.bytes) (ap utf8_of (text_part c.args.image.now.bytes.now c.args.image.now.header c.args.image.now.whole p c.requires.0))
