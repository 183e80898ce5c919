-- Paths of the machine one after the other: transitions, `Comes` and `Go`. Assumes nothing.
use Prim.Native.Nat.{ℕ, zero, suc, ◌+◌, ◌-◌}
use native.Mathlib.Nat.{suc-add, zero-add, add_assoc, add-zero}
use native.Mathlib.Omega.{arith}
use mathlib.Core.Path.{◌≡◌, refl, ap, sym, subst, ◌∙◌}
use mathlib.Core.List.{List}
use Rattle.packed.specs.declared.layout.Header.{Header}
use Rattle.rules.specs.Machine.{Cfg, next, cost}
use Rattle.rules.specs.Runs.{iter, costs, Comes}
use Rattle.rules.specs.Go.{Go}

module _ (image : List ℕ) (h : Header) where
  pub iter_add : (i j : ℕ) (c : Cfg) → iter image h (i + j) c ≡ iter image h j (iter image h i c)
  unfolding iter
  iter_add zero j c = rw zero-add
  iter_add (suc i) j c = rw suc-add (iter_add i j (next image h c))

  pub costs_add : (i j : ℕ) (c : Cfg) → costs image h (i + j) c ≡ costs image h i c + costs image h j (iter image h i c)
  unfolding iter costs
  costs_add zero j c = simp zero-add
  costs_add (suc i) j c = rw (suc-add, costs_add i j (next image h c)) (sym (add_assoc _ _ _))

module _ {image : List ℕ} {h : Header} where
  -- no transition, one, and those of two paths
  comes_stay : {c : Cfg} → Comes image h c 0 c
  unfolding iter costs
  comes_stay = record { transitions = 0; there = refl; takes = refl }

  comes_next : {c d : Cfg} {k : ℕ} → cost c ≡ k → next image h c ≡ d → Comes image h c k d
  unfolding iter costs
  comes_next e there = record { transitions = 1; there = there; takes = add-zero _ ∙ e }

  comes_then : {a b c : Cfg} {j k : ℕ} → Comes image h a j b → Comes image h b k c → Comes image h a (j + k) c
  comes_then {a} p q =
      let t = p.transitions in
      let u = q.transitions in
      record {
        transitions = t + u;
        there = iter_add image h t u a ∙ ap (iter image h u) p.there ∙ q.there;
        takes = omega (arith, costs_add image h t u a, ap (costs image h u) p.there, p.takes, q.takes);
      }

  pub stay : {l : ℕ} {c : Cfg} → Go image h l c l c
  stay = record { taken = 0; comes = comes_stay; left = omega arith }

  pub ◌then◌ : {l m n : ℕ} {a b c : Cfg} → Go image h l a m b → Go image h m b n c → Go image h l a n c
  ◌then◌ p q = record { taken = p.taken + q.taken; comes = comes_then p.comes q.comes; left = omega (arith, p.left, q.left) }

  pub to : {l m : ℕ} {a b c : Cfg} → Go image h l a m b → b ≡ c → Go image h l a m c
  to {l} {m} {a} p e = subst (Go image h l a m) e p

  -- one transition that takes nothing
  pub free : {l : ℕ} {c d : Cfg} → cost c ≡ 0 → next image h c ≡ d → Go image h l c l d
  free z e = record { taken = 0; comes = comes_next z e; left = omega arith }

  -- one that takes
  pub take : {l : ℕ} {c d : Cfg} → cost c ≡ 1 → (l ≡ 0 → ⊥) → next image h c ≡ d → Go image h l c (l - 1) d
  take o some e = record { taken = 1; comes = comes_next o e; left = omega (arith, some) }

infixr 20 ◌then◌
