-- The part up to the clamped end is the slice, and it is tested by where its characters stop.
use Rattle.std.proofs.Common.{◌≡◌, ◌<◌, ℕ, List, ◌∙◌, sym, ap, length, take, drop, min, not, arith}
use Rattle.std.proofs.Math.ListN.{length-take, drop_of_length-le}
use Rattle.std.proofs.Math.Seq.{slice, take_all}
use native.Mathlib.Decide.{dec_lt}
use lib.Dec.{eqb}
use Rattle.utf8.specs.Utf8.{utf8_of}
use Rattle.utf8.proofs.Chars.{utf8_none}
use Rattle.utf8.proofs.Runs.{part_stopped, part_going}
use Rattle.utf8.proofs.is_utf8.Goals as goal

-- the slice up to `to` is the one up to the clamped end
same : (bytes : List ℕ) (from to end : ℕ) → end ≡ min (length bytes) to → slice from to bytes ≡ slice from end bytes
same bytes from to end e = go (dec_lt to (length bytes))
  where
    go : Dec (to < length bytes) → slice from to bytes ≡ slice from end bytes
    go (yes h) = ap (λ (n : ℕ). slice from n bytes) (omega arith)
    go (no h) = ap (drop from) (take_all to bytes (omega arith) ∙ sym (take_all end bytes (omega arith)))

pub returns-then-end-from : goal.returns-then-end-from
returns-then-end-from c =
    let a = c.args in
    let front = take c.min-end.result a.bytes.now in
    sym (ap utf8_of (same a.bytes.now a.from a.to c.min-end.result c.min-end.ensures ∙ drop_of_length-le front (omega (arith, length-take c.min-end.result a.bytes.now))) ∙ utf8_none)

pub returns-then-stop-end : goal.returns-then-stop-end
returns-then-stop-end c =
    let a = c.args in
    sym (ap utf8_of (same a.bytes.now a.from a.to c.min-end.result c.min-end.ensures)
    ∙ part_stopped a.bytes.now a.from c.min-end.result (omega arith) (omega arith) (omega arith)
    ∙ ap (λ (n : ℕ). eqb n c.min-end.result) (sym c.stop_of-stop.ensures))

pub returns : goal.returns
returns c =
    let a = c.args in
    sym (ap utf8_of (same a.bytes.now a.from a.to c.min-end.result c.min-end.ensures)
    ∙ part_going a.bytes.now a.from c.min-end.result (omega arith) (omega arith) (omega arith)
    ∙ ap not (sym c.in_range.ensures))
