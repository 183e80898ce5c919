-- A search from `i` on finds what one from `from` on does.
use mathlib.Core.Path.{◌≡◌}
use Rattle.entries.proofs.EntryLaws.{key_from}
use Rattle.entries.proofs.find_key.Given as goal

abbrev pub invariant-loop-i : goal.invariant-loop-i
invariant-loop-i l = key_from l.image.bytes.now l.image.header l.key l.to l.words l.from ≡ key_from l.image.bytes.now l.image.header l.key l.to l.words l.i
