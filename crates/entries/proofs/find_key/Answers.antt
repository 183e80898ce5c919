-- `key_turn` and `key_none`.
use mathlib.Core.Path.{sym, ap, ◌∙◌}
use native.Mathlib.Omega.{arith}
use Rattle.stores.specs.Finding.{found_of}
use Rattle.entries.proofs.EntryLaws.{key_turn, key_none}
use Rattle.entries.proofs.find_key.Goals as goal

pub returns-then-same_part : goal.returns-then-same_part
returns-then-same_part c = sym (ap found_of (c.loop-i.invariant ∙ key_turn _ _ _ _ _ _ _ (omega arith) c.if-same_part.ensures))

pub loop-i-preserved : goal.loop-i-preserved
loop-i-preserved c = c.loop-i.invariant ∙ key_turn _ _ _ _ _ _ _ (omega arith) c.if-same_part.ensures

pub returns : goal.returns
returns c = sym (ap found_of (c.loop-i.invariant ∙ key_none _ _ _ _ _ _ (omega arith)))
