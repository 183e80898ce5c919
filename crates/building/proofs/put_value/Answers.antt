-- Each kind of value by its clause.
use Rattle.rules.specs.Store.{text_of}
use Rattle.texts.specs.Text.{pool_text}
use Rattle.building.proofs.MakingLaws.{prints_nothing, puts_nothing}
use Rattle.building.proofs.put_value.Goals as goal

pub returns-in-Text : goal.returns-in-Text
unfolding pool_text text_of
returns-in-Text c = record { end = rw c.in-Text.is c.put_text.ensures.end; bytes = rw c.in-Text.is c.put_text.ensures.bytes }

pub returns-in_default : goal.returns-in_default
returns-in_default c =
    let a = c.args in
    let other = c.in_default in
    let kept = puts_nothing a.at a.bytes.now c.requires.1 in
    rw (prints_nothing a.image.now.bytes.now a.image.now.header _ a.v other.not-Bool other.not-Signed other.not-Text) (record { end = kept.0; bytes = kept.1 })
