-- `sourced`.
use Rattle.texts.proofs.TextLaws.{sourced}
use Rattle.texts.proofs.sources_of.Goals as goal

pub returns : goal.returns
returns c = sourced _ _ _ _ _ _ c.image_span-image.ensures (rw c.saturating_sub-past.ensures at c.span_of-built.ensures)
