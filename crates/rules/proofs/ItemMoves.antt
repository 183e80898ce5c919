-- The transitions of items, of what is built of them, and of calls, as paths. Assumes nothing.
use Prim.Native.Nat.{ℕ, ◌+◌, ◌≤◌, ◌<◌}
use mathlib.Core.Path.{◌≡◌, refl}
use mathlib.Core.List.{List, [], ◌∷◌, ◌++◌}
use mathlib.Core.Option.{Option, some, none}
use lib.ListN.{length, drop}
use borrow.Author.Tests.{lt-ltb, le-ltb, eq-eqb, ne_eqb}
use Rattle.packed.specs.declared.layout.Header.{Header}
use Rattle.packed.specs.Layout.{node_at, function_at}
use Rattle.rules.specs.declared.Value.{Value}
use Rattle.rules.specs.declared.Value.TheVariants.{Vec, Tuple, Object}
use Rattle.rules.specs.declared.Refusal.TheVariants.{Bindings, Pending, NotConst, ArgumentCount}
use Rattle.rules.specs.Store.{arguments, Store, most_bindings, most_pending, with_floor, with_bindings, opened, closed, pushed, dropped, taken_cells, as_float}
use Rattle.rules.specs.Building.{Made, built_text, boxed, item_cells, entries, entry_cells, printed, unprinted, template_text}
use Rattle.rules.specs.Machine.{Kind, scope, binary, decl, set, assign, template, name, read, value, branches, loop, break, vec, tuple, object, call, other, kind_of, enter, items, ret, Frame, item_of, call_of}
use Rattle.rules.specs.Machine.{going, stop, onward, whole_chain, made, completed, returned, next, cost}
use Rattle.rules.specs.Go.{Go}
use Rattle.rules.proofs.Going.{free}
use Rattle.rules.proofs.Moves.{Gathers, components, elements, members, fields, parameters}

-- the kinds whose items are boxed one after the other, and the value of such a box
pub data Boxes : Kind → (ℕ → Value) → Type 0 where
  vecs : Boxes vec Vec
  tuples : Boxes tuple Tuple

-- node n accepts the value of an item: it is no template, or the value prints
pub data Accepts (image : List ℕ) (h : Header) (σ : Store) (n : ℕ) (v : Value) : Type 0 where
  unjudged : ((node_at image h n).kind ≡ 6 → ⊥) → Accepts image h σ n v
  prints : {bytes : List ℕ} → (node_at image h n).kind ≡ 6 → printed image h σ v ≡ some bytes → Accepts image h σ n v

module _ {image : List ℕ} {h : Header} {l : ℕ} {K : List Frame} {σ : Store} where
  -- ---- items

  module _ {n i d p : ℕ} where
    pub text_skipped : (i ≡ 0 → ⊥) → (node_at image h i).kind ≡ 17
        → Go image h l (going (items n i d p) K σ) l (going (items n (onward image h i) d p) K σ)
    unfolding next cost
    text_skipped more k = free refl (rw (ne_eqb _ _ more, eq-eqb _ _ k))

    pub item_entered : (i ≡ 0 → ⊥) → ((node_at image h i).kind ≡ 17 → ⊥) → ((node_at image h n).kind ≡ 15 → ⊥)
        → Go image h l (going (items n i d p) K σ) l (going (enter i (d + 1)) (item_of n i d p ∷ K) σ)
    unfolding next cost
    item_entered more k itself = free refl (rw (ne_eqb _ _ more, ne_eqb _ _ k, ne_eqb _ _ itself))

    pub entry_entered : (i ≡ 0 → ⊥) → ((node_at image h i).kind ≡ 17 → ⊥) → (node_at image h n).kind ≡ 15
        → Go image h l (going (items n i d p) K σ) l (going (enter (node_at image h i).b (d + 1)) (item_of n i d p ∷ K) σ)
    unfolding next cost
    entry_entered more k within = free refl (rw (ne_eqb _ _ more, ne_eqb _ _ k, eq-eqb _ _ within))

    pub item_accepted : {v : Value} → Accepts image h σ n v → length σ.pending < most_pending
        → Go image h l (going (ret v) (item_of n i d p ∷ K) σ) l (going (items n (onward image h i) d p) K (pushed v σ))
    unfolding next cost returned
    item_accepted (unjudged k) room = free refl (rw (ne_eqb _ _ k, lt-ltb _ _ room))
    item_accepted (prints k e) room = free refl (rw (eq-eqb _ _ k, e, lt-ltb _ _ room))

    pub too_many_pending : {v : Value} → Accepts image h σ n v → most_pending ≤ length σ.pending
        → Go image h l (going (ret v) (item_of n i d p ∷ K) σ) l (stop Pending n)
    unfolding next cost returned
    too_many_pending (unjudged k) full = free refl (rw (ne_eqb _ _ k, le-ltb _ _ full))
    too_many_pending (prints k e) full = free refl (rw (eq-eqb _ _ k, e, le-ltb _ _ full))

    pub item_unprinted : {v : Value} → (node_at image h n).kind ≡ 6 → printed image h σ v ≡ none
        → Go image h l (going (ret v) (item_of n i d p ∷ K) σ) l (stop (unprinted (as_float v)) i)
    unfolding next cost returned
    item_unprinted k e = free refl (rw (eq-eqb _ _ k, e))

  -- ---- all items are there

  module _ {n i d p : ℕ} (ended : i ≡ 0) where
    pub template_built : {x : Made} → kind_of (node_at image h n).kind ≡ template
        → built_text image h n (dropped p σ) (template_text image h σ (whole_chain image h (node_at image h n).a) (drop p σ.pending)) ≡ x
        → Go image h l (going (items n i d p) K σ) l (made image h K x)
    unfolding next cost completed
    template_built k e = free refl (rw (eq-eqb _ _ ended, k, e))

    pub items_boxed : {k : Kind} {box : ℕ → Value} {x : Option Store} → Boxes k box → kind_of (node_at image h n).kind ≡ k
        → taken_cells (dropped p σ) (item_cells σ (drop p σ.pending)) ≡ x
        → Go image h l (going (items n i d p) K σ) l (made image h K (boxed n (box (length σ.cells)) x))
    unfolding next cost completed
    items_boxed vecs k e = free refl (rw (eq-eqb _ _ ended, k, e))
    items_boxed tuples k e = free refl (rw (eq-eqb _ _ ended, k, e))

    pub entries_boxed : {x : Option Store} → kind_of (node_at image h n).kind ≡ object
        → taken_cells (dropped p σ) (entry_cells σ (entries image h (whole_chain image h (node_at image h n).a) (drop p σ.pending) [])) ≡ x
        → Go image h l (going (items n i d p) K σ) l (made image h K (boxed n (Object (length σ.cells)) x))
    unfolding next cost completed
    entries_boxed k e = free refl (rw (eq-eqb _ _ ended, k, e))

    -- a kind that evaluates no items has none to complete
    pub no_items : {k : Kind} → (Gathers k → ⊥) → kind_of (node_at image h n).kind ≡ k
        → Go image h l (going (items n i d p) K σ) l (stop NotConst n)
    unfolding next cost completed
    no_items {k = scope} itemless e = free refl (rw (eq-eqb _ _ ended, e))
    no_items {k = binary} itemless e = free refl (rw (eq-eqb _ _ ended, e))
    no_items {k = decl} itemless e = free refl (rw (eq-eqb _ _ ended, e))
    no_items {k = set} itemless e = free refl (rw (eq-eqb _ _ ended, e))
    no_items {k = assign} itemless e = free refl (rw (eq-eqb _ _ ended, e))
    no_items {k = template} itemless e = absurd (itemless components)
    no_items {k = name} itemless e = free refl (rw (eq-eqb _ _ ended, e))
    no_items {k = read} itemless e = free refl (rw (eq-eqb _ _ ended, e))
    no_items {k = value} itemless e = free refl (rw (eq-eqb _ _ ended, e))
    no_items {k = branches} itemless e = free refl (rw (eq-eqb _ _ ended, e))
    no_items {k = loop} itemless e = free refl (rw (eq-eqb _ _ ended, e))
    no_items {k = break} itemless e = free refl (rw (eq-eqb _ _ ended, e))
    no_items {k = vec} itemless e = absurd (itemless elements)
    no_items {k = tuple} itemless e = absurd (itemless members)
    no_items {k = object} itemless e = absurd (itemless fields)
    no_items {k = call} itemless e = absurd (itemless parameters)
    no_items {k = other} itemless e = free refl (rw (eq-eqb _ _ ended, e))

    -- ---- calls

    module _ (k : kind_of (node_at image h n).kind ≡ call) where
      pub wrong_count : (length (drop p σ.pending) ≡ (function_at image (node_at image h n).tag).count → ⊥)
          → Go image h l (going (items n i d p) K σ) l (stop ArgumentCount n)
      unfolding next cost completed
      wrong_count differs = free refl (rw (eq-eqb _ _ ended, k, ne_eqb _ _ differs))

      module _ (same : length (drop p σ.pending) ≡ (function_at image (node_at image h n).tag).count) where
        pub too_many_bound : most_bindings < length σ.bindings + (function_at image (node_at image h n).tag).count
            → Go image h l (going (items n i d p) K σ) l (stop Bindings n)
        unfolding next cost completed
        too_many_bound full = free refl (rw (eq-eqb _ _ ended, k, eq-eqb _ _ same, lt-ltb _ _ full))

        pub call_entered : length σ.bindings + (function_at image (node_at image h n).tag).count ≤ most_bindings
            → Go image h l (going (items n i d p) K σ) l
            (going (enter (function_at image (node_at image h n).tag).body (d + 1)) (call_of σ.scope σ.floor p ∷ K)
            (with_floor (length σ.bindings)
            (with_bindings (σ.bindings ++ arguments (function_at image (node_at image h n).tag).first (drop p σ.pending)) (opened σ))))
        unfolding next cost completed
        call_entered room = free refl (rw (eq-eqb _ _ ended, k, eq-eqb _ _ same, le-ltb _ _ room))

  pub call_done : {s f p : ℕ} {v : Value} → Go image h l (going (ret v) (call_of s f p ∷ K) σ) l (going (ret v) K (dropped p (with_floor f (closed s σ))))
  unfolding next cost returned
  call_done = free refl refl
