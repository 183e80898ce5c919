-- The bytes that are lent are those of the text (`text_lent`).
use Rattle.std.proofs.Common.{arith}
use Rattle.records.proofs.Texts.{text_lent}
use Rattle.records.proofs.text.Goals as goal

pub returns-clause-bytes : goal.returns-clause-bytes
returns-clause-bytes c = text_lent c.args.image.now.bytes.now c.args.image.now.header c.args.image.now.whole _ _ c.text_at-at.ensures (omega arith)
