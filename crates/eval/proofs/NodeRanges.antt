-- The nodes that the evaluators go to are nodes of the image: the fields of a node by its kind, and the members of a chain. Assumes nothing.
use Prim.Native.Nat.{ℕ, ◌+◌, ◌≤◌}
use native.Mathlib.Omega.{arith}
use mathlib.Core.Path.{◌≡◌, refl, sym, ap, subst, ◌∙◌}
use mathlib.Core.Bool.{Bool, true, false, ◌&&◌, true≢false}
use mathlib.Core.List.{List}
use native.Mathlib.Decide.{ℕ_discrete}
use borrow.Author.Tests.{ltb-true, leb-true, eqb-true, eq-eqb, ne_eqb}
use lib.Dec.{ltb, leb, eqb}
use Rattle.fields.proofs.Tests.{and_both}
use Rattle.packed.specs.declared.layout.Header.{Header}
use Rattle.packed.specs.declared.layout.Node.{Node}
use Rattle.packed.specs.declared.layout.Function.{Function}
use Rattle.kinds.specs.declared.Class.{Class}
use Rattle.kinds.specs.declared.Class.TheVariants.{Expression, Condition, Scope, Arm, Component, Entry}
use Rattle.kinds.specs.declared.Role.{Role}
use Rattle.kinds.specs.declared.Role.TheVariants.{Node as NodeRole}
use Rattle.packed.specs.Layout.{node_at, function_at}
use Rattle.kinds.specs.Kinds.{row_of, table, tag_role, is_of}
use Rattle.records.specs.Records.{fits, is_node, function_good}
use Rattle.image.proofs.Loads.{node_loaded, function_loaded}
use Rattle.image.proofs.Chains.{Along, along_class}
use Rattle.rules.specs.Machine.{kind_of, kinds, item_node}
use Rattle.building.specs.Making.{IsKind}
use Rattle.outcomes.specs.Outcomes.{IsNode}
use Rattle.operands.specs.Waiting.{Single, declares, sets, assigns, breaks, operand_of}
use Rattle.items.specs.Gathering.{Builds, Gathers, built, called, templates, vecs, tuples, objects, IsItem}

-- a field that names a node: it is one, if it must be or is not 0
named_there : (image : List ℕ) (h : Header) (needed heads : Bool) (class : Class) (x : ℕ) → fits image h (NodeRole needed heads class) x ≡ true
    → (needed ≡ false → x ≡ 0 → ⊥) → (1 ≤ x) × (x ≤ h.nodes)
unfolding fits
named_there image h true heads class x e some =
    let both = and_both (ltb 0 x) (leb x h.nodes) e in
    (ltb-true 0 x both.0, leb-true x h.nodes both.1)
named_there image h false heads class x e some = (omega (arith, some refl), leb-true x h.nodes e)

-- the fields of a node, and the body of a function, that the code has read
pub a_of : {d e : Node} → d ≡ e → d.a ≡ e.a
a_of e = ap (λ (x : Node). x.a) e

pub b_of : {d e : Node} → d ≡ e → d.b ≡ e.b
b_of e = ap (λ (x : Node). x.b) e

pub kind_is : {d e : Node} → d ≡ e → d.kind ≡ e.kind
kind_is e = ap (λ (x : Node). x.kind) e

pub body_of_function : {f g : Function} → f ≡ g → f.body ≡ g.body
body_of_function e = ap (λ (x : Function). x.body) e

module _ {image : List ℕ} {h : Header} {n : ℕ} (r : IsNode image h n) where
  pub is_kind : (k : ℕ) → (node_at image h n).kind ≡ k → IsKind k image h n
  is_kind k e = record { loaded = r.loaded; first = r.first; last = r.last; same = e }

  -- another node
  pub node_in : {m : ℕ} → (1 ≤ m) × (m ≤ h.nodes) → IsNode image h m
  node_in there = record { loaded = r.loaded; first = there.0; last = there.1 }

  module _ (k : ℕ) (kind : (node_at image h n).kind ≡ k) (needed heads : Bool) (class : Class) where
    pub a_there : (row_of k).a ≡ NodeRole needed heads class → (needed ≡ false → (node_at image h n).a ≡ 0 → ⊥)
        → (1 ≤ (node_at image h n).a) × ((node_at image h n).a ≤ h.nodes)
    a_there role some =
        named_there image h needed heads class (node_at image h n).a
        (subst (λ (x : Role). fits image h x (node_at image h n).a ≡ true) (ap (λ (x : ℕ). (row_of x).a) kind ∙ role) (node_loaded image h r.loaded n r.first r.last).a) some

    pub b_there : (row_of k).b ≡ NodeRole needed heads class → (needed ≡ false → (node_at image h n).b ≡ 0 → ⊥)
        → (1 ≤ (node_at image h n).b) × ((node_at image h n).b ≤ h.nodes)
    b_there role some =
        named_there image h needed heads class (node_at image h n).b
        (subst (λ (x : Role). fits image h x (node_at image h n).b ≡ true) (ap (λ (x : ℕ). (row_of x).b) kind ∙ role) (node_loaded image h r.loaded n r.first r.last).b) some

  -- a member of the chain that n heads
  pub along_there : (k : ℕ) → (node_at image h n).kind ≡ k → (needed : Bool) (class : Class) → (row_of k).a ≡ NodeRole needed true class
      → (i : ℕ) → Along image h n i → (1 ≤ i) × (i ≤ h.nodes) × (is_of class (node_at image h i).kind ≡ true)
  along_there k kind needed class role i p =
      let there = along_class image h r.loaded n r.first r.last needed class (ap (λ (x : ℕ). (row_of x).a) kind ∙ role) i p in
      let first : 1 ≤ i = omega (arith, there.0, r.first) in
      (first, there.1, there.2)

-- ---- what a node of each kind names, by the table of kinds

module _ {image : List ℕ} {h : Header} {n : ℕ} (r : IsNode image h n) where
  pub instruction_there : (node_at image h n).kind ≡ 1 → (i : ℕ) → Along image h n i → (1 ≤ i) × (i ≤ h.nodes)
  unfolding row_of table
  instruction_there k i p = let there = along_there r 1 k false Expression refl i p in (there.0, there.1)

  pub last_there : (node_at image h n).kind ≡ 1 → ((node_at image h n).b ≡ 0 → ⊥) → (1 ≤ (node_at image h n).b) × ((node_at image h n).b ≤ h.nodes)
  unfolding row_of table
  last_there k some = b_there r 1 k false false Expression refl (λ _. some)

  pub left_there : (node_at image h n).kind ≡ 2 → (1 ≤ (node_at image h n).a) × ((node_at image h n).a ≤ h.nodes)
  unfolding row_of table
  left_there k = a_there r 2 k true false Expression refl (λ e z. cc)

  pub right_there : (node_at image h n).kind ≡ 2 → (1 ≤ (node_at image h n).b) × ((node_at image h n).b ≤ h.nodes)
  unfolding row_of table
  right_there k = b_there r 2 k true false Expression refl (λ e z. cc)

  pub arm_there : (node_at image h n).kind ≡ 10 → (i : ℕ) → Along image h n i → (1 ≤ i) × (i ≤ h.nodes) × ((node_at image h i).kind ≡ 18)
  unfolding row_of table
  arm_there k i p = let there = along_there r 10 k false Arm refl i p in (there.0, there.1, eqb-true (node_at image h i).kind 18 there.2)

  pub default_there : (node_at image h n).kind ≡ 10 → ((node_at image h n).b ≡ 0 → ⊥) → (1 ≤ (node_at image h n).b) × ((node_at image h n).b ≤ h.nodes)
  unfolding row_of table
  default_there k some = b_there r 10 k false false Scope refl (λ _. some)

  pub loop_condition_there : (node_at image h n).kind ≡ 11 → ((node_at image h n).a ≡ 0 → ⊥) → (1 ≤ (node_at image h n).a) × ((node_at image h n).a ≤ h.nodes)
  unfolding row_of table
  loop_condition_there k some = a_there r 11 k false false Condition refl (λ _. some)

  pub loop_body_there : (node_at image h n).kind ≡ 11 → (1 ≤ (node_at image h n).b) × ((node_at image h n).b ≤ h.nodes)
  unfolding row_of table
  loop_body_there k = b_there r 11 k true false Scope refl (λ e z. cc)

  pub arm_condition_there : (node_at image h n).kind ≡ 18 → (1 ≤ (node_at image h n).a) × ((node_at image h n).a ≤ h.nodes)
  unfolding row_of table
  arm_condition_there k = a_there r 18 k true false Condition refl (λ e z. cc)

  pub arm_body_there : (node_at image h n).kind ≡ 18 → (1 ≤ (node_at image h n).b) × ((node_at image h n).b ≤ h.nodes)
  unfolding row_of table
  arm_body_there k = b_there r 18 k true false Scope refl (λ e z. cc)

  pub let_there : (node_at image h n).kind ≡ 20 → (1 ≤ (node_at image h n).a) × ((node_at image h n).a ≤ h.nodes)
  unfolding row_of table
  let_there k = a_there r 20 k true false Expression refl (λ e z. cc)

-- ---- items

module _ {image : List ℕ} {h : Header} {n : ℕ} (r : IsNode image h n) (i : ℕ) (p : Along image h n i) where
  -- an item that is evaluated itself
  itself : (k : ℕ) → (node_at image h n).kind ≡ k → (k ≡ 15 → ⊥) → (needed : Bool) (class : Class) → (row_of k).a ≡ NodeRole needed true class → IsItem image h n i
  itself k kind other needed class role =
      let there = along_there r k kind needed class role i p in
      let own : item_node image h n i ≡ i = rw (ne_eqb (node_at image h n).kind 15 (λ e. other (sym kind ∙ e))) in
      record { first = there.0; last = there.1; inner_first = λ _. rw own there.0; inner_last = λ _. rw own there.1 }

  -- an entry, whose value is
  within_entry : (node_at image h n).kind ≡ 15 → IsItem image h n i
  unfolding row_of table
  within_entry kind =
      let there = along_there r 15 kind false Entry refl i p in
      let inner : IsNode image h i = node_in r (there.0, there.1) in
      let value = b_there inner 19 (eqb-true (node_at image h i).kind 19 there.2) true false Expression refl (λ (e : true ≡ false). absurd (true≢false e)) in
      let own : item_node image h n i ≡ (node_at image h i).b = rw (eq-eqb (node_at image h n).kind 15 kind) in
      record { first = there.0; last = there.1; inner_first = λ _. rw own value.0; inner_last = λ _. rw own value.1 }

  by_kind : {k : ℕ} → (node_at image h n).kind ≡ k → Gathers k → IsItem image h n i
  unfolding row_of table
  by_kind kind (built templates) = itself 6 kind (λ e. omega (arith, e)) false Component refl
  by_kind kind (built vecs) = itself 13 kind (λ e. omega (arith, e)) false Expression refl
  by_kind kind (built tuples) = itself 14 kind (λ e. omega (arith, e)) true Expression refl
  by_kind kind (built objects) = within_entry kind
  by_kind kind called = itself 16 kind (λ e. omega (arith, e)) false Expression refl

  pub item_there : Gathers (node_at image h n).kind → IsItem image h n i
  item_there g = by_kind refl g

-- ---- the one operand of a decl, set, assign or break

module _ {image : List ℕ} {h : Header} {n : ℕ} (r : IsNode image h n) where
  operand_by : {k : ℕ} → (node_at image h n).kind ≡ k → Single k → (operand_of (kind_of k) (node_at image h n) ≡ 0 → ⊥)
      → (1 ≤ operand_of (kind_of k) (node_at image h n)) × (operand_of (kind_of k) (node_at image h n) ≤ h.nodes)
  unfolding row_of table kind_of kinds
  operand_by kind declares some = a_there r 3 kind true false Expression refl (λ (e : true ≡ false). absurd (true≢false e))
  operand_by kind sets some = b_there r 4 kind true false Expression refl (λ (e : true ≡ false). absurd (true≢false e))
  operand_by kind assigns some = b_there r 5 kind true false Expression refl (λ (e : true ≡ false). absurd (true≢false e))
  operand_by kind breaks some = a_there r 12 kind false false Expression refl (λ (_ : false ≡ false). some)

  -- there is one, if a break has a value
  some_by : {k : ℕ} → (node_at image h n).kind ≡ k → Single k → (k ≡ 12 → (node_at image h n).a ≡ 0 → ⊥) → operand_of (kind_of k) (node_at image h n) ≡ 0 → ⊥
  unfolding row_of table kind_of kinds
  some_by kind declares valued z = omega (arith, z, (a_there r 3 kind true false Expression refl (λ (e : true ≡ false). absurd (true≢false e))).0)
  some_by kind sets valued z = omega (arith, z, (b_there r 4 kind true false Expression refl (λ (e : true ≡ false). absurd (true≢false e))).0)
  some_by kind assigns valued z = omega (arith, z, (b_there r 5 kind true false Expression refl (λ (e : true ≡ false). absurd (true≢false e))).0)
  some_by kind breaks valued z = valued refl z

  pub operand_some : {k : ℕ} → (node_at image h n).kind ≡ k → Single k → (k ≡ 12 → (node_at image h n).a ≡ 0 → ⊥)
      → operand_of (kind_of (node_at image h n).kind) (node_at image h n) ≡ 0 → ⊥
  operand_some kind single valued = subst (λ (x : ℕ). operand_of (kind_of x) (node_at image h n) ≡ 0 → ⊥) (sym kind) (some_by kind single valued)

  pub operand_there : Single (node_at image h n).kind → (operand_of (kind_of (node_at image h n).kind) (node_at image h n) ≡ 0 → ⊥)
      → (1 ≤ operand_of (kind_of (node_at image h n).kind) (node_at image h n)) × (operand_of (kind_of (node_at image h n).kind) (node_at image h n) ≤ h.nodes)
  operand_there single some = operand_by refl single some

-- ---- a function's body

pub body_there : {image : List ℕ} {h : Header} {n : ℕ} → IsNode image h n → (node_at image h n).kind ≡ 16
    → (1 ≤ (function_at image (node_at image h n).tag).body) × ((function_at image (node_at image h n).tag).body ≤ h.nodes)
unfolding row_of table tag_role fits function_good
body_there {image} {h} {n} r kind =
    let called = ltb-true (node_at image h n).tag h.functions (rw kind at (node_loaded image h r.loaded n r.first r.last).tag) in
    let f = function_at image (node_at image h n).tag in
    let good = and_both (is_node h.nodes f.body && leb (f.first + f.count) 1024) (eqb f.zero 0) (function_loaded image h r.loaded (node_at image h n).tag called) in
    let named = and_both (is_node h.nodes f.body) (leb (f.first + f.count) 1024) good.0 in
    let both = and_both (ltb 0 f.body) (leb f.body h.nodes) named.0 in
    (ltb-true 0 f.body both.0, leb-true f.body h.nodes both.1)

-- ---- kinds by their numbers

pub single_within : (k : ℕ) → 3 ≤ k → k ≤ 5 → Single k
single_within k low high = go (ℕ_discrete k 3) (ℕ_discrete k 4)
  where
    go : Dec (k ≡ 3) → Dec (k ≡ 4) → Single k
    go (yes e) four = subst Single (sym e) declares
    go (no three) (yes e) = subst Single (sym e) sets
    go (no three) (no four) = let e : k ≡ 5 = omega arith in subst Single (sym e) assigns

pub builds_within : (k : ℕ) → 13 ≤ k → k ≤ 15 → Builds k
builds_within k low high = go (ℕ_discrete k 13) (ℕ_discrete k 14)
  where
    go : Dec (k ≡ 13) → Dec (k ≡ 14) → Builds k
    go (yes e) tuple = subst Builds (sym e) vecs
    go (no vec) (yes e) = subst Builds (sym e) tuples
    go (no vec) (no tuple) = let e : k ≡ 15 = omega arith in subst Builds (sym e) objects
