-- The part that the payload names, by what its span is.
use mathlib.Core.Path.{sym, ◌∙◌}
use Rattle.rules.specs.Store.{part_text}
use Rattle.texts.proofs.literal_text.Goals as goal

pub returns : goal.returns
unfolding part_text
returns c = c.of.ensures ∙ sym (rw (c.start_of.ensures, c.length_of.ensures) at (c.image_span.ensures.is c.args.image.now.bytes.now))
