-- The library's order of bytes is that of the rules: `ascending_is`.
use Rattle.rules.specs.Store.{part_text}
use Rattle.texts.proofs.Parts.{ascending_is}
use Rattle.texts.proofs.ascending_part.Goals as goal

pub returns : goal.returns
returns c =
    let a = c.args in
    ascending_is (part_text a.image.now.bytes.now a.image.now.header a.p) (part_text a.image.now.bytes.now a.image.now.header a.q) _
    (rw (c.literal_text.ensures, c.literal_text-2.ensures) at c.le.ensures)
