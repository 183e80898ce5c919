-- The place of a refusal is below 2^20 and its number is at most 4, whatever the image: a place is the offset of one of a header's records, or a node.
-- Assumes nothing.
use mathlib.Core.Path.{◌≡◌, refl}
use mathlib.Core.Bool.{Bool, true, false, not, cond}
use mathlib.Core.List.{List}
use Prim.Native.Nat.{ℕ, ◌+◌, ◌-◌, ◌^◌, ◌≤◌, ◌<◌}
use native.Mathlib.Omega.{arith}
use lib.Dec.{ltb, eqb}
use lib.ListN.{length}
use Rattle.fields.proofs.Laws.{field_below}
use Rattle.packed.specs.declared.layout.Header.{Header}
use Rattle.std.proofs.Common.{Option, Some, None, Result, Ok, Err}
use Rattle.image.specs.declared.LoadError.{LoadError}
use Rattle.image.specs.declared.LoadError.TheVariants.{BadLength, BadHeader, BadRecord, BadTree}
use Rattle.records.specs.First.{first_from}
use Rattle.packed.specs.Layout.{header_of, size_of, function_offset, node_offset, literal_offset}
use Rattle.records.specs.Records.{is_node, records_in, record_offset, record_bad, placed, bad_record}
use Rattle.tree.specs.Tree.{at_fault, lowest_fault}
use Rattle.image.specs.Load.{by_tree, by_records, judged, load_of, number_of, place_of}
use Rattle.records.proofs.Search.{found}

pub number_small : (l : Result Header LoadError) → number_of l ≤ 4
number_small (Ok h) = omega arith
number_small (Err BadLength) = omega arith
number_small (Err BadHeader) = omega arith
number_small (Err (BadRecord place)) = omega arith
number_small (Err (BadTree n)) = omega arith

-- what holds of both sides of a choice holds of what is chosen
either : {A : Type 0} (P : A → Type 0) (b : Bool) {x y : A} → P x → P y → P (cond b x y)
either P true p q = p
either P false p q = q

abbrev Below : ℕ → Type 0
Below place = place < 2 ^ 20

abbrev Small : Result Header LoadError → Type 0
Small l = Below (place_of l)

refused : Below 0
refused = omega arith

module _ (image : List ℕ) (h : Header) (functions : h.functions < 256) (nodes : h.nodes < 4096) (literals : h.literals < 4096) where
  offset_below : (r : ℕ) → r < records_in h → Below (record_offset h r)
  unfolding record_offset
  offset_below r few =
      let function : Below (function_offset r) = omega arith in
      let node : Below (node_offset h (r - h.functions + 1)) = omega arith in
      let literal : Below (literal_offset h (r - h.functions - h.nodes)) = omega arith in
      either Below (ltb r h.functions) function (either Below (ltb (r - h.functions) h.nodes) node literal)

  by_tree_lem : (f : Option ℕ) → first_from (at_fault image h) 1 h.nodes ≡ f → Small (by_tree h f)
  by_tree_lem (Some n) e = omega (arith, (found (at_fault image h) 1 h.nodes n e).within)
  by_tree_lem None e = omega arith

  by_records_lem : (f : Option ℕ) → first_from (record_bad image h) 0 (records_in h) ≡ f → Small (by_records image h (placed (record_offset h) f))
  unfolding lowest_fault
  by_records_lem (Some r) e = offset_below r (omega (arith, (found (record_bad image h) 0 (records_in h) r e).within))
  by_records_lem None e = by_tree_lem _ refl

  judged_small : Small (judged image h)
  unfolding judged bad_record
  judged_small =
      either Small (not (eqb h.edition 1)) refused
      (either Small (not (eqb (length image) (size_of h))) refused
      (either Small (not (is_node h.nodes h.root)) refused
      (by_records_lem _ refl)))

pub place_small : (image : List ℕ) {l : Result Header LoadError} → l ≡ load_of image → place_of l < 2 ^ 20
unfolding load_of header_of
place_small image e =
    rw e
    (either Small (ltb (length image) 8) refused
    (judged_small image (header_of image) (field_below image (0 + 4) 8) (field_below image (0 + 12) 12) (field_below image (0 + 24) 12)))
