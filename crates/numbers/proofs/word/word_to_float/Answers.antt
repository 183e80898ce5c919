-- The test tells the patterns of a NaN.
use Rattle.std.proofs.Common.{sym, ◌∙◌}
use Rattle.numbers.proofs.FloatLaws.{nan_is, above, below}
use Rattle.numbers.proofs.word.word_to_float.Goals as goal

pub returns-then-w-gt-INFINITY : goal.returns-then-w-gt-INFINITY
returns-then-w-gt-INFINITY c = nan_is ∙ sym (above c.args.w c.if-w-gt-INFINITY.true)

pub float_from_bits-result : goal.float_from_bits-result
float_from_bits-result c = below c.args.w c.if-w-gt-INFINITY.false
