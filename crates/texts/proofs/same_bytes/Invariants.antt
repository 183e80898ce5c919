use Rattle.std.proofs.Common.{◌≡◌, drop}
use Rattle.rules.specs.Store.{same_text}
use Rattle.texts.proofs.same_bytes.Given as goal

-- what the texts come to is what they come to from the i-th byte on
abbrev pub invariant-loop-i : goal.invariant-loop-i
invariant-loop-i l = same_text l.a l.b ≡ same_text (drop l.i l.a) (drop l.i l.b)
