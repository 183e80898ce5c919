-- The chains of an image that loads: each node goes on to a later one, and there is one for every number that it names. Assumes nothing.
use mathlib.Core.Path.{◌≡◌, refl, sym, ap, ◌∙◌, subst}
use mathlib.Core.Bool.{Bool, true, false, cond}
use mathlib.Core.List.{List, [], ◌∷◌}
use Prim.Native.Nat.{ℕ, zero, suc, ◌+◌, ◌-◌, ◌≤◌, ◌<◌}
use native.Mathlib.Decide.{ℕ_discrete}
use native.Mathlib.Omega.{arith}
use borrow.Author.Tests.{eqb-true, ltb-true, eq-eqb, ne_eqb}
use lib.Dec.{ltb, eqb}
use lib.ListN.{length}
use Rattle.std.specs.Prelude.{Ok}
use Rattle.packed.specs.declared.layout.Header.{Header}
use Rattle.kinds.specs.declared.Class.TheVariants.{Component, Entry}
use Rattle.kinds.specs.declared.Role.{Role}
use Rattle.kinds.specs.declared.Role.TheVariants.{Text, Node as NodeRole}
use Rattle.packed.specs.Layout.{node_at, size_of}
use Rattle.kinds.specs.Kinds.{row_of, table}
use Rattle.image.specs.Load.{load_of}
use Rattle.records.specs.Records.{fits}
use Rattle.image.proofs.Loads.{Reaches, nothing, on, header_right, node_loaded, text_asked, a_reaches}
use Rattle.image.proofs.Chains.{Along, continues, along_class}
use Rattle.rules.specs.Machine.{onward, chain, whole_chain}
use Rattle.building.specs.Making.{IsKind}

-- a bound of how many nodes a chain has from i on
abbrev pub left_of : Header → ℕ → ℕ
left_of h i = cond (eqb i 0) 0 (suc h.nodes - i)

module _ (image : List ℕ) (h : Header) where
  chain_none : (most : ℕ) → chain image h most 0 ≡ []
  unfolding chain
  chain_none zero = refl
  chain_none (suc most) = refl

  chain_some : (most i : ℕ) → (i ≡ 0 → ⊥) → chain image h (suc most) i ≡ i ∷ chain image h most (onward image h i)
  unfolding chain
  chain_some most i some = rw (ne_eqb i 0 some)

  pub whole_none : (i : ℕ) → i ≡ 0 → whole_chain image h i ≡ []
  whole_none i z = ap (chain image h h.nodes) z ∙ chain_none h.nodes

  onward_up : (i : ℕ) → (onward image h i ≡ 0 → ⊥) → (i < onward image h i) × (onward image h i ≡ (node_at image h i).next)
  onward_up i some = go (ltb i (node_at image h i).next) refl some
    where
      go : (b : Bool) → ltb i (node_at image h i).next ≡ b → (cond b (node_at image h i).next 0 ≡ 0 → ⊥)
          → (i < cond b (node_at image h i).next 0) × (cond b (node_at image h i).next 0 ≡ (node_at image h i).next)
      go true e s = (ltb-true i (node_at image h i).next e, refl)
      go false e s = absurd (s refl)

  -- a chain goes on with the node that is onward
  pub along_onward : (n i : ℕ) → Along image h n i → (onward image h i ≡ 0 → ⊥) → Along image h n (onward image h i)
  along_onward n i p some = continues p (sym (onward_up i some).1) some

  module _ (loaded : load_of image ≡ Ok h) where
    pub size_right : size_of h ≤ length image
    size_right = omega (arith, (header_right image h loaded).exact)

    pub onward_within : (i : ℕ) → 1 ≤ i → i ≤ h.nodes → onward image h i ≤ h.nodes
    onward_within i first last = go (ℕ_discrete (onward image h i) 0)
      where
        go : Dec (onward image h i ≡ 0) → onward image h i ≤ h.nodes
        go (yes z) = omega arith
        go (no s) = omega (arith, onward_up i s, (node_loaded image h loaded i first last).next)

    -- one more than enough is no more
    chain_spare : (most i : ℕ) → i ≤ h.nodes → ((i ≡ 0 → ⊥) → h.nodes < most + i) → chain image h (suc most) i ≡ chain image h most i
    chain_spare zero i within enough = go (ℕ_discrete i 0)
      where
        go : Dec (i ≡ 0) → chain image h 1 i ≡ chain image h 0 i
        go (yes z) = rw z (chain_none 1 ∙ sym (chain_none 0))
        go (no s) = absurd (omega (arith, enough s))
    chain_spare (suc most) i within enough = go (ℕ_discrete i 0) (chain_spare most (onward image h i))
      where
        go : Dec (i ≡ 0) → (onward image h i ≤ h.nodes → ((onward image h i ≡ 0 → ⊥) → h.nodes < most + onward image h i)
            → chain image h (suc most) (onward image h i) ≡ chain image h most (onward image h i))
            → chain image h (suc (suc most)) i ≡ chain image h (suc most) i
        go (yes z) rest = rw z (chain_none (suc (suc most)) ∙ sym (chain_none (suc most)))
        go (no s) rest =
            chain_some (suc most) i s
            ∙ ap (λ (is : List ℕ). i ∷ is) (rest (onward_within i (omega arith) within) (λ t. omega (arith, enough s, onward_up i t)))
            ∙ sym (chain_some most i s)

    pub whole_more : (i : ℕ) → (i ≡ 0 → ⊥) → i ≤ h.nodes → whole_chain image h i ≡ i ∷ whole_chain image h (onward image h i)
    whole_more i some last = go h.nodes refl
      where
        go : (k : ℕ) → h.nodes ≡ k → chain image h k i ≡ i ∷ chain image h k (onward image h i)
        go zero e = absurd (some (omega arith))
        go (suc k) e =
            chain_some k i some
            ∙ ap (λ (is : List ℕ). i ∷ is)
            (sym (chain_spare k (onward image h i) (onward_within i (omega arith) last) (λ s. omega (arith, onward_up i s))))

    -- a node whose a is to be a text literal has one
    pub text_there : (i : ℕ) → 1 ≤ i → i ≤ h.nodes → (row_of (node_at image h i).kind).a ≡ Text → (node_at image h i).a < h.literals
    text_there i first last role =
        (text_asked image h loaded (node_at image h i).a
        (subst (λ (r : Role). fits image h r (node_at image h i).a ≡ true) role (node_loaded image h loaded i first last).a)).0

    pub part_there : (i : ℕ) → (i ≡ 0 → ⊥) → i ≤ h.nodes → (node_at image h i).kind ≡ 17 → (node_at image h i).a < h.literals
    unfolding row_of table
    part_there i some last kind = text_there i (omega arith) last (rw kind)

    -- what is left of a chain goes down
    pub onward_less : (i : ℕ) → (i ≡ 0 → ⊥) → i ≤ h.nodes → left_of h (onward image h i) < left_of h i
    onward_less i some last = rw (ne_eqb i 0 some) (go (ℕ_discrete (onward image h i) 0))
      where
        go : Dec (onward image h i ≡ 0) → left_of h (onward image h i) < suc h.nodes - i
        go (yes z) = rw (eq-eqb (onward image h i) 0 z) (omega arith)
        go (no s) = rw (ne_eqb (onward image h i) 0 s) (omega (arith, onward_up i s))

-- each node of an object's chain is an entry
pub entry_there : (image : List ℕ) (h : Header) (n : ℕ) → IsKind 15 image h n → (i : ℕ) → Along image h n i
    → (1 ≤ i) × (i ≤ h.nodes) × ((node_at image h i).a < h.literals)
unfolding row_of table
entry_there image h n object i p =
    let role : (row_of (node_at image h n).kind).a ≡ NodeRole false true Entry = rw object.same in
    let there = along_class image h object.loaded n object.first object.last false Entry role i p in
    let kind : (node_at image h i).kind ≡ 19 = eqb-true (node_at image h i).kind 19 there.2 in
    let first : 1 ≤ i = omega arith in
    (first, there.1, text_there image h object.loaded i first there.1 (rw kind))

-- the first component of a template
pub component_within : (image : List ℕ) (h : Header) (n : ℕ) → IsKind 6 image h n → (node_at image h n).a ≤ h.nodes
unfolding row_of table
component_within image h n template =
    let role : (row_of (node_at image h n).kind).a ≡ NodeRole false true Component = rw template.same in
    go (a_reaches image h template.loaded n template.first template.last false true Component role)
  where
    go : Reaches image h n Component (node_at image h n).a → (node_at image h n).a ≤ h.nodes
    go (nothing z) = omega arith
    go (on less within fits) = within
