-- One payload has one text: `same_text_of`.
use Rattle.rules.specs.Store.{part_text}
use Rattle.texts.proofs.Parts.{same_text_of}
use Rattle.texts.proofs.same_part.Goals as goal

pub returns-then-p-q : goal.returns-then-p-q
returns-then-p-q c = same_text_of (part_text c.args.image.now.bytes.now c.args.image.now.header) _ _ c.if-p-q.true
