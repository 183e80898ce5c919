-- The invariants of the loops: where the machine is and, over a chain, that the next node is of the chain. Assumes nothing.
use Prim.Native.Nat.{ℕ, ◌≤◌, ◌<◌}
use mathlib.Core.Path.{◌≡◌, sym, ap, subst, ◌∙◌}
use mathlib.Core.List.{List, []}
use Rattle.packed.specs.declared.layout.Header.{Header}
use Rattle.packed.specs.declared.layout.Node.{Node}
use Rattle.packed.specs.Layout.{node_at}
use Rattle.std.proofs.Common.{Ok}
use Rattle.image.specs.Load.{load_of}
use Rattle.image.proofs.Chains.{Along, begins}
use Rattle.rules.specs.Machine.{Ctl, instructions, items, arms, onward}
use Rattle.building.specs.Making.{onward_of}
use Rattle.stores.specs.Stores.{Fits}
use Rattle.building.proofs.ChainLaws.{left_of, onward_less, along_onward}
use Rattle.stores.specs.declared.run.Run.{Run}
use Rattle.eval.proofs.MemberLaws.{Reached, here, on_then}

pub record AtChain (image : List ℕ) (h : Header) (n : ℕ) (t₀ t : Ctl) (i : ℕ) (run₀ : Run) (words₀ bytes₀ : List ℕ) (run : Run) (words bytes : List ℕ) : Type 0 where
  pub reached : Reached image h t₀ [] run₀ words₀ bytes₀ t [] run words bytes
  pub along : (i ≡ 0 → ⊥) → Along image h n i

module _ {image : List ℕ} {h : Header} {n : ℕ} where
  pub chain_begins : {t : Ctl} {i : ℕ} {run : Run} {words bytes : List ℕ} → Fits run words → i ≡ (node_at image h n).a
      → AtChain image h n t t i run words bytes run words bytes
  chain_begins fits e = record { reached = here fits; along = λ some. begins (sym e) some }

  -- the next node, which the code has from node i
  module _ {t₀ t : Ctl} {i j : ℕ} {node : Node} {run₀ : Run} {words₀ bytes₀ : List ℕ} {run : Run} {words bytes : List ℕ}
      (at : AtChain image h n t₀ t i run₀ words₀ bytes₀ run words bytes) (more : i ≡ 0 → ⊥) (d : node ≡ node_at image h i) (e : j ≡ onward_of node i) where
    next_is : j ≡ onward image h i
    next_is = e ∙ ap (λ (x : Node). onward_of x i) d

    chain_next : (t' : ℕ → Ctl) {run₁ : Run} {words₁ bytes₁ : List ℕ}
        → Reached image h t₀ [] run₀ words₀ bytes₀ (t' (onward image h i)) [] run₁ words₁ bytes₁ → AtChain image h n t₀ (t' j) j run₀ words₀ bytes₀ run₁ words₁ bytes₁
    chain_next t' p =
        record {
          reached = rw next_is p;
          along = λ some. subst (Along image h n) (sym next_is) (along_onward image h n i (at.along more) (λ z. some (next_is ∙ z)));
        }

    pub instructions_next : {m x s : ℕ} {run₁ : Run} {words₁ bytes₁ : List ℕ}
        → Reached image h t₀ [] run₀ words₀ bytes₀ (instructions m (onward image h i) x s) [] run₁ words₁ bytes₁
        → AtChain image h n t₀ (instructions m j x s) j run₀ words₀ bytes₀ run₁ words₁ bytes₁
    instructions_next {m} {x} {s} p = chain_next (λ (k : ℕ). instructions m k x s) p

    pub items_next : {m x s : ℕ} {run₁ : Run} {words₁ bytes₁ : List ℕ}
        → Reached image h t₀ [] run₀ words₀ bytes₀ (items m (onward image h i) x s) [] run₁ words₁ bytes₁ → AtChain image h n t₀ (items m j x s) j run₀ words₀ bytes₀ run₁ words₁ bytes₁
    items_next {m} {x} {s} p = chain_next (λ (k : ℕ). items m k x s) p

    pub arms_next : {m x : ℕ} {run₁ : Run} {words₁ bytes₁ : List ℕ}
        → Reached image h t₀ [] run₀ words₀ bytes₀ (arms m (onward image h i) x) [] run₁ words₁ bytes₁ → AtChain image h n t₀ (arms m j x) j run₀ words₀ bytes₀ run₁ words₁ bytes₁
    arms_next {m} {x} p = chain_next (λ (k : ℕ). arms m k x) p

    pub chain_less : load_of image ≡ Ok h → i ≤ h.nodes → left_of h j < left_of h i
    chain_less loaded last = rw next_is (onward_less image h loaded i more last)

-- at the end of a chain
module _ {image : List ℕ} {h : Header} {t₀ : Ctl} {n i d s : ℕ} {run₀ : Run} {words₀ bytes₀ : List ℕ} {run : Run} {words bytes : List ℕ} (e : i ≡ 0) where
  pub instructions_end : Reached image h t₀ [] run₀ words₀ bytes₀ (instructions n i d s) [] run words bytes
      → Reached image h t₀ [] run₀ words₀ bytes₀ (instructions n 0 d s) [] run words bytes
  instructions_end p = subst (λ (k : ℕ). Reached image h t₀ [] run₀ words₀ bytes₀ (instructions n k d s) [] run words bytes) e p

  pub items_end : Reached image h t₀ [] run₀ words₀ bytes₀ (items n i d s) [] run words bytes
      → Reached image h t₀ [] run₀ words₀ bytes₀ (items n 0 d s) [] run words bytes
  items_end p = subst (λ (k : ℕ). Reached image h t₀ [] run₀ words₀ bytes₀ (items n k d s) [] run words bytes) e p

pub arms_end : {image : List ℕ} {h : Header} {t₀ : Ctl} {n i d : ℕ} {run₀ : Run} {words₀ bytes₀ : List ℕ} {run : Run} {words bytes : List ℕ} → i ≡ 0
    → Reached image h t₀ [] run₀ words₀ bytes₀ (arms n i d) [] run words bytes → Reached image h t₀ [] run₀ words₀ bytes₀ (arms n 0 d) [] run words bytes
arms_end {image} {h} {t₀} {n} {d = d} {run₀} {words₀} {bytes₀} {run} {words} {bytes} e p =
    subst (λ (k : ℕ). Reached image h t₀ [] run₀ words₀ bytes₀ (arms n k d) [] run words bytes) e p

-- the turns of a loop
pub record AtTurn (image : List ℕ) (h : Header) (t : Ctl) (run₀ : Run) (words₀ bytes₀ : List ℕ) (run : Run) (words bytes : List ℕ) : Type 0 where
  pub reached : Reached image h t [] run₀ words₀ bytes₀ t [] run words bytes

pub turn_begins : {image : List ℕ} {h : Header} {t : Ctl} {run : Run} {words bytes : List ℕ} → Fits run words → AtTurn image h t run words bytes run words bytes
turn_begins fits = record { reached = here fits }

pub turn_next : {image : List ℕ} {h : Header} {t : Ctl} {run₀ : Run} {words₀ bytes₀ : List ℕ} {run : Run} {words bytes : List ℕ} {run₁ : Run} {words₁ bytes₁ : List ℕ}
    → AtTurn image h t run₀ words₀ bytes₀ run words bytes → Reached image h t [] run words bytes t [] run₁ words₁ bytes₁ → AtTurn image h t run₀ words₀ bytes₀ run₁ words₁ bytes₁
turn_next at p = record { reached = on_then at.reached p }
