-- Where no record is bad, every function, node and literal is good. Assumes nothing.
use mathlib.Core.Path.{◌≡◌, sym, ap, ◌∙◌}
use mathlib.Core.Bool.{true}
use mathlib.Core.List.{List}
use Prim.Native.Nat.{ℕ, ◌+◌, ◌-◌, ◌≤◌, ◌<◌}
use native.Mathlib.Omega.{arith}
use Rattle.std.proofs.Common.{zero-le}
use borrow.Author.Tests.{not-false, lt-ltb, le-ltb}
use Rattle.packed.specs.declared.layout.Header.{Header}
use Rattle.std.proofs.Common.{Option, Some, None}
use Rattle.records.specs.First.{first_from}
use Rattle.packed.specs.Layout.{function_at, node_at}
use Rattle.records.specs.Records.{function_good, node_good, literal_good, record_good, record_bad, record_offset, records_in, placed, bad_record}
use Rattle.records.proofs.Search.{nowhere}

pub placed_nowhere : (f : ℕ → ℕ) (x : Option ℕ) → placed f x ≡ None → x ≡ None
placed_nowhere f (Some r) e = let z : ◌≡◌ {A = ℕ} 0 1 = cc in absurd (omega arith)
placed_nowhere f None e = e

module _ (image : List ℕ) (h : Header) (none : bad_record image h ≡ None) where
  pub record_good_lem : (r : ℕ) → r < records_in h → record_good image h r ≡ true
  unfolding bad_record
  record_good_lem r l =
      let never = nowhere (record_bad image h) 0 (records_in h) (placed_nowhere (record_offset h) (first_from (record_bad image h) 0 (records_in h)) none) in
      not-false (record_good image h r) (never r zero-le (omega arith))

  pub function_good_lem : (f : ℕ) → f < h.functions → function_good h (function_at image f) ≡ true
  unfolding record_good
  function_good_lem f l =
      let all : f < records_in h = omega arith in
      rw (lt-ltb f h.functions l) at (record_good_lem f all)

  pub node_good_lem : (n : ℕ) → 1 ≤ n → n ≤ h.nodes → node_good image h (node_at image h n) ≡ true
  unfolding record_good
  node_good_lem n one l =
      let r = h.functions + (n - 1) in
      let all : r < records_in h = omega arith in
      let first : h.functions ≤ r = omega arith in
      let second : r - h.functions < h.nodes = omega arith in
      let same : r - h.functions + 1 ≡ n = omega arith in
      let good = rw (le-ltb r h.functions first, lt-ltb (r - h.functions) h.nodes second) at (record_good_lem r all) in
      ap (λ (k : ℕ). node_good image h (node_at image h k)) (sym same) ∙ good

  pub literal_good_lem : (l : ℕ) → l < h.literals → literal_good image h l ≡ true
  unfolding record_good
  literal_good_lem l less =
      let r = h.functions + h.nodes + l in
      let all : r < records_in h = omega arith in
      let first : h.functions ≤ r = omega arith in
      let second : h.nodes ≤ r - h.functions = omega arith in
      let same : r - h.functions - h.nodes ≡ l = omega arith in
      let good = rw (le-ltb r h.functions first, le-ltb (r - h.functions) h.nodes second) at (record_good_lem r all) in
      ap (literal_good image h) (sym same) ∙ good
