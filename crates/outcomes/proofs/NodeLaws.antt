-- What the nodes of an image that loads name: a target, a literal, a function. Assumes nothing.
use Prim.Native.Nat.{ℕ, ◌≤◌, ◌<◌}
use mathlib.Core.Path.{◌≡◌, sym, ap, subst}
use mathlib.Core.Logic.{◌⊎◌, inl, inr}
use mathlib.Core.Bool.{true}
use mathlib.Core.List.{List}
use borrow.Author.Tests.{ltb-true}
use Rattle.packed.specs.declared.layout.Header.{Header}
use Rattle.packed.specs.declared.layout.Node.{Node}
use Rattle.kinds.specs.declared.Role.{Role}
use Rattle.kinds.specs.declared.Role.TheVariants.{Literal, Function}
use Rattle.packed.specs.Layout.{node_at}
use Rattle.kinds.specs.Kinds.{tag_role, row_of, table}
use Rattle.records.specs.Records.{fits}
use Rattle.image.proofs.Loads.{node_loaded}
use Rattle.building.specs.Making.{IsKind}
use Rattle.targets.specs.Reading.{IsTarget}
use Rattle.targets.proofs.TargetNodes.{target_of}
use Rattle.outcomes.specs.Outcomes.{IsNode}

module _ {image : List ℕ} {h : Header} {n : ℕ} (is : IsNode image h n) where
  -- what reading it asks
  pub node_there : (1 ≤ n) × (n ≤ h.nodes)
  node_there = (is.first, is.last)

  -- kinds 4 and 5: "a target"
  writes_to : ((node_at image h n).kind ≡ 4) ⊎ ((node_at image h n).kind ≡ 5) → IsTarget image h (node_at image h n).a
  unfolding row_of table
  writes_to (inl k) = target_of image h n is.loaded is.first is.last (ap (λ (kind : ℕ). (row_of kind).a) k)
  writes_to (inr k) = target_of image h n is.loaded is.first is.last (ap (λ (kind : ℕ). (row_of kind).a) k)

  pub target_there : (d : Node) → d ≡ node_at image h n → (d.kind ≡ 4) ⊎ (d.kind ≡ 5) → IsTarget image h d.a
  target_there d node = subst (λ (x : Node). (x.kind ≡ 4) ⊎ (x.kind ≡ 5) → IsTarget image h x.a) (sym node) writes_to

  -- by the node that was read
  pub of_kind : {kind : ℕ} (d : Node) → d ≡ node_at image h n → d.kind ≡ kind → IsKind kind image h n
  of_kind d node k = record { loaded = is.loaded; first = is.first; last = is.last; same = rw node at k }

-- ---- nodes of a kind

pub as_node : {kind : ℕ} {image : List ℕ} {h : Header} {n : ℕ} → IsKind kind image h n → IsNode image h n
as_node is = record { loaded = is.loaded; first = is.first; last = is.last }

module _ {image : List ℕ} {h : Header} {n : ℕ} where
  pub read_names : IsKind 8 image h n → IsTarget image h (node_at image h n).a
  unfolding row_of table
  read_names is = target_of image h n is.loaded is.first is.last (ap (λ (k : ℕ). (row_of k).a) is.same)

  pub value_names : IsKind 9 image h n → (node_at image h n).a < h.literals
  unfolding row_of table fits
  value_names is =
      let role : (row_of (node_at image h n).kind).a ≡ Literal = ap (λ (k : ℕ). (row_of k).a) is.same in
      ltb-true (node_at image h n).a h.literals
      (subst (λ (r : Role). fits image h r (node_at image h n).a ≡ true) role (node_loaded image h is.loaded n is.first is.last).a)

  pub call_names : IsKind 16 image h n → (node_at image h n).tag < h.functions
  unfolding tag_role row_of table fits
  call_names is =
      let role : tag_role (node_at image h n).kind (node_at image h n).op ≡ Function = ap (λ (k : ℕ). tag_role k (node_at image h n).op) is.same in
      ltb-true (node_at image h n).tag h.functions
      (subst (λ (r : Role). fits image h r (node_at image h n).tag ≡ true) role (node_loaded image h is.loaded n is.first is.last).tag)
