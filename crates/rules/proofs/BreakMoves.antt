-- The transitions of a break as paths: it goes outward, frame by frame, to the loop that it ends. Assumes nothing.
use Prim.Native.Nat.{ℕ}
use mathlib.Core.Path.{◌≡◌, refl}
use mathlib.Core.Logic.{◌⊎◌, inl, inr}
use mathlib.Core.Bool.{Bool, true, false, false≢true, or-true}
use mathlib.Core.List.{List, [], ◌∷◌}
use lib.ListN.{take}
use borrow.Author.Tests.{eq-eqb, ne_eqb}
use Rattle.packed.specs.declared.layout.Header.{Header}
use Rattle.packed.specs.Layout.{node_at}
use Rattle.rules.specs.declared.Value.{Value}
use Rattle.rules.specs.declared.Refusal.TheVariants.{BreakOutside, BreakWithValue}
use Rattle.rules.specs.Store.{Store, with_scope, with_bindings, dropped}
use Rattle.rules.specs.Machine.{ret, brk, Frame, left_of, right_of, decl_of, set_of, assign_of, let_of, break_of, instruction_of, end_of, item_of, arm_of, condition_of, body_of, call_of}
use Rattle.rules.specs.Machine.{going, stop, returned, broken, next, cost}
use Rattle.rules.specs.Go.{Go}
use Rattle.rules.proofs.Going.{free}

-- the frames that a break leaves with the store as it is
abbrev pub passes : Frame → Bool
passes (left_of n d) = true
passes (right_of n u) = true
passes (decl_of n) = true
passes (set_of n) = true
passes (assign_of n) = true
passes (let_of c) = true
passes (break_of n) = true
passes (instruction_of n i d s) = true
passes (end_of s) = true
passes (item_of n i d p) = false
passes (arm_of n i d s) = true
passes (condition_of n d s) = true
passes (body_of n d s from) = false
passes (call_of s f p) = false

module _ {image : List ℕ} {h : Header} {l : ℕ} {K : List Frame} {σ : Store} where
  pub break_valued : {n : ℕ} {v : Value} → Go image h l (going (ret v) (break_of n ∷ K) σ) l (going (brk n v) K σ)
  unfolding next cost returned
  break_valued = free refl refl

  module _ {b : ℕ} {v : Value} where
    pub break_passes : (f : Frame) → passes f ≡ true → Go image h l (going (brk b v) (f ∷ K) σ) l (going (brk b v) K σ)
    unfolding next cost broken
    break_passes (left_of n d) e = free refl refl
    break_passes (right_of n u) e = free refl refl
    break_passes (decl_of n) e = free refl refl
    break_passes (set_of n) e = free refl refl
    break_passes (assign_of n) e = free refl refl
    break_passes (let_of c) e = free refl refl
    break_passes (break_of n) e = free refl refl
    break_passes (instruction_of n i d s) e = free refl refl
    break_passes (end_of s) e = free refl refl
    break_passes (item_of n i d p) e = absurd (false≢true e)
    break_passes (arm_of n i d s) e = free refl refl
    break_passes (condition_of n d s) e = free refl refl
    break_passes (body_of n d s from) e = absurd (false≢true e)
    break_passes (call_of s f p) e = absurd (false≢true e)

    pub break_drops : {n i d p : ℕ} → Go image h l (going (brk b v) (item_of n i d p ∷ K) σ) l (going (brk b v) K (dropped p σ))
    unfolding next cost broken
    break_drops = free refl refl

    pub break_in_call : {s f p : ℕ} → Go image h l (going (brk b v) (call_of s f p ∷ K) σ) l (stop BreakOutside b)
    unfolding next cost broken
    break_in_call = free refl refl

    module _ {n d s from : ℕ} where
      pub break_elsewhere : ((node_at image h b).tag ≡ (node_at image h n).tag → ⊥)
          → Go image h l (going (brk b v) (body_of n d s from ∷ K) σ) l (going (brk b v) K σ)
      unfolding next cost broken
      break_elsewhere label = free refl (rw (ne_eqb _ _ label))

      pub break_ends : (node_at image h b).tag ≡ (node_at image h n).tag → ((node_at image h b).a ≡ 0) ⊎ ((node_at image h n).a ≡ 0)
          → Go image h l (going (brk b v) (body_of n d s from ∷ K) σ) l (going (ret v) K (with_scope s (with_bindings (take from σ.bindings) σ)))
      unfolding next cost broken
      break_ends label (inl bare) = free refl (rw (eq-eqb _ _ label, eq-eqb _ _ bare))
      break_ends label (inr bare) = free refl (rw (eq-eqb _ _ label, eq-eqb _ _ bare, or-true))

      pub break_with_value : (node_at image h b).tag ≡ (node_at image h n).tag → ((node_at image h b).a ≡ 0 → ⊥) → ((node_at image h n).a ≡ 0 → ⊥)
          → Go image h l (going (brk b v) (body_of n d s from ∷ K) σ) l (stop BreakWithValue n)
      unfolding next cost broken
      break_with_value label valued condition = free refl (rw (eq-eqb _ _ label, ne_eqb _ _ valued, ne_eqb _ _ condition))

-- a break with no frame left
pub break_at_root : {image : List ℕ} {h : Header} {l b : ℕ} {v : Value} {σ : Store} → Go image h l (going (brk b v) [] σ) l (stop BreakOutside b)
unfolding next cost broken
break_at_root = free refl refl
