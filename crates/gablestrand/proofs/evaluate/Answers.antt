-- Either store is too short, or the first parts are lent and then filled with zeros.
use mathlib.Core.Logic.{inl, inr}
use Rattle.gablestrand.specs.Evaluate.{short}
use Rattle.gablestrand.proofs.Clearing.{filled}
use Rattle.gablestrand.proofs.RootLaws.{cleared_after}
use Rattle.gablestrand.proofs.evaluate.Goals as goal
use Rattle.gablestrand.proofs.evaluate.Goals.{then-words-lt-WORDS-via-then-words-lt-WORDS, then-words-lt-WORDS-via-else-words-lt-WORDS+then-bytes-lt-BYTES}

pub returns-then-words-lt-WORDS : goal.returns-then-words-lt-WORDS
returns-then-words-lt-WORDS c =
    elim c.then-words-lt-WORDS.branch [
      | then-words-lt-WORDS-via-then-words-lt-WORDS w ↦ short (inl w.if-words-lt-WORDS.true)
      | then-words-lt-WORDS-via-else-words-lt-WORDS+then-bytes-lt-BYTES w ↦ short (inr w.if-bytes-lt-BYTES.true)
    ]

pub returns : goal.returns
returns c =
    cleared_after (c.if-words-lt-WORDS.false, c.if-bytes-lt-BYTES.false) c.answer_of-answer.ensures
    (filled 8192 _ c.fill.new.self c.args.words.now c.if-words-lt-WORDS.false c.answer_of-answer.auto.words (c.fill.ensures.after (λ y e. e)))
    (filled 16384 _ c.fill-2.new.self c.args.bytes.now c.if-bytes-lt-BYTES.false c.answer_of-answer.auto.bytes (c.fill-2.ensures.after (λ y e. e)))
