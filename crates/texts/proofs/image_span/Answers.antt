-- The part, in the image: `span_in_image`.
use Rattle.texts.proofs.TextLaws.{span_in_image}
use Rattle.texts.proofs.image_span.Goals as goal

pub returns : goal.returns
returns c =
    let a = c.args in
    rw c.text_at.ensures (span_in_image a.h a.start a.len _ c.span_of-part.ensures)
