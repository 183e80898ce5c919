-- Past the end there is no byte, and elsewhere the byte at the place is the first of those left.
use Rattle.std.proofs.Common.{◌≡◌, ◌<◌, ℕ, List, [], ◌∷◌, length, get_or, drop, refl, ◌∙◌}
use Rattle.std.proofs.lemmas.Grind.{get_or_default_zero}
use Rattle.std.proofs.Math.ListN.{drop_of_length-le}
use Rattle.std.proofs.Math.Seq.{drop-cons}
use mathlib.Core.Bool.{and-true}
use borrow.Author.Tests.{le-leb, lt-leb, true-ltb, false-ltb}
use Rattle.utf8.specs.Utf8.{Range, within, starts}
use Rattle.utf8.proofs.in_range.Goals as goal

one_byte : (bytes : List ℕ) (at : ℕ) (range : Range) → at < length bytes → starts (range ∷ []) (drop at bytes) ≡ within range (get_or bytes at 0)
unfolding starts
one_byte bytes at range h = rw (drop-cons bytes at 0 h, and-true) refl

pub returns-in-None : goal.returns-in-None
unfolding starts
returns-in-None c = rw (drop_of_length-le c.args.bytes.now {i = c.args.at} (false-ltb _ _ c.in-None.ensures.lookup.0)) refl

pub returns-then-low-byte : goal.returns-then-low-byte
returns-then-low-byte c =
    let found = c.in-Some.ensures.lookup in
    let inside = true-ltb c.args.at (length c.args.bytes.now) found.0 in
    let byte = found.1 ∙ get_or_default_zero c.args.bytes.now c.args.at c.in-Some.field-0.now inside in
    rw (one_byte c.args.bytes.now c.args.at (c.args.low, c.args.high) inside, ← byte, le-leb _ _ c.if-low-byte.true) refl

pub returns-else-low-byte : goal.returns-else-low-byte
returns-else-low-byte c =
    let found = c.in-Some.ensures.lookup in
    let inside = true-ltb c.args.at (length c.args.bytes.now) found.0 in
    let byte = found.1 ∙ get_or_default_zero c.args.bytes.now c.args.at c.in-Some.field-0.now inside in
    rw (one_byte c.args.bytes.now c.args.at (c.args.low, c.args.high) inside, ← byte, lt-leb _ _ c.if-low-byte.false) refl
