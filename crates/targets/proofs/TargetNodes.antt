-- The nodes of a target in an image that loads. Assumes nothing.
use mathlib.Core.Path.{◌≡◌, sym, ap, subst}
use mathlib.Core.Bool.{true, false}
use mathlib.Core.List.{List}
use Prim.Native.Nat.{ℕ, ◌≤◌, ◌<◌}
use native.Mathlib.Decide.{ℕ_discrete}
use native.Mathlib.Omega.{arith}
use borrow.Author.Tests.{leb-true, ltb-true}
use lib.Dec.{leb, ltb}
use Rattle.fields.proofs.Tests.{and_both}
use Rattle.std.specs.Prelude.{Ok}
use Rattle.packed.specs.declared.layout.Header.{Header}
use Rattle.packed.specs.declared.layout.Node.{Node}
use Rattle.kinds.specs.declared.Role.{Role}
use Rattle.kinds.specs.declared.Role.TheVariants.{Node as NodeRole}
use Rattle.kinds.specs.declared.Class.TheVariants.{Target}
use Rattle.packed.specs.Layout.{node_at}
use Rattle.kinds.specs.Kinds.{row_of, table}
use Rattle.image.specs.Load.{load_of}
use Rattle.records.specs.Records.{fits}
use Rattle.image.proofs.Loads.{Reaches, nothing, on, node_loaded, a_reaches, text_asked}
use Rattle.targets.specs.Reading.{IsTarget}

-- what a node names whose kind asks for a target
pub target_of : (image : List ℕ) (h : Header) (n : ℕ) → load_of image ≡ Ok h → 1 ≤ n → n ≤ h.nodes
    → (row_of (node_at image h n).kind).a ≡ NodeRole true false Target → IsTarget image h (node_at image h n).a
unfolding fits
target_of image h n loaded first last row =
    let some = and_both (ltb 0 (node_at image h n).a) (leb (node_at image h n).a h.nodes)
    (subst (λ (r : Role). fits image h r (node_at image h n).a ≡ true) row (node_loaded image h loaded n first last).a) in
    go (ltb-true 0 (node_at image h n).a some.0) (a_reaches image h loaded n first last true false Target row)
  where
    go : 0 < (node_at image h n).a → Reaches image h n Target (node_at image h n).a → IsTarget image h (node_at image h n).a
    go above (nothing z) = absurd (omega (arith, z, above))
    go above (on past end target) = record { loaded = loaded; first = above; last = end; target = target }

module _ (image : List ℕ) (h : Header) (t : ℕ) (is : IsTarget image h t) where
  -- its kind is 21, 22 or 23
  part_row : ((node_at image h t).kind ≡ 21 → ⊥) → (row_of (node_at image h t).kind).a ≡ NodeRole true false Target
  unfolding row_of table
  part_row other =
      let both = and_both (leb 21 (node_at image h t).kind) (leb (node_at image h t).kind 23) is.target in
      let low = leb-true 21 (node_at image h t).kind both.0 in
      let high = leb-true (node_at image h t).kind 23 both.1 in
      go (ℕ_discrete (node_at image h t).kind 22) low high
    where
      go : Dec ((node_at image h t).kind ≡ 22) → 21 ≤ (node_at image h t).kind → (node_at image h t).kind ≤ 23 → (row_of (node_at image h t).kind).a ≡ NodeRole true false Target
      go (yes k) low high = ap (λ (kind : ℕ). (row_of kind).a) k
      go (no k) low high =
          let last : (node_at image h t).kind ≡ 23 = omega (arith, low, high, k, other) in
          ap (λ (kind : ℕ). (row_of kind).a) last

  before : ((node_at image h t).kind ≡ 21 → ⊥) → IsTarget image h (node_at image h t).a
  before other = target_of image h t is.loaded is.first is.last (part_row other)

  key : (node_at image h t).kind ≡ 22 → (node_at image h t).b < h.literals
  unfolding row_of table
  key k =
      (text_asked image h is.loaded (node_at image h t).b
      (subst (λ (r : Role). fits image h r (node_at image h t).b ≡ true) (ap (λ (kind : ℕ). (row_of kind).b) k) (node_loaded image h is.loaded t is.first is.last).b)).0

  -- d is its node: what stands before a field or an index is a target, and a field's key is a literal

  pub part_before : (d : Node) → d ≡ node_at image h t → (d.kind ≡ 21 → ⊥) → IsTarget image h d.a
  part_before d node = subst (λ (x : Node). (x.kind ≡ 21 → ⊥) → IsTarget image h x.a) (sym node) before

  pub key_there : (d : Node) → d ≡ node_at image h t → d.kind ≡ 22 → d.b < h.literals
  key_there d node = subst (λ (x : Node). x.kind ≡ 22 → x.b < h.literals) (sym node) key
