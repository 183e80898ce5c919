-- Laws of the marks that say in whose chain a node stands. Assumes nothing.
use mathlib.Core.Path.{◌≡◌, refl, sym, ap₂, ◌∙◌}
use mathlib.Core.Bool.{true, false, ◌&&◌}
use mathlib.Core.List.{List}
use Prim.Native.Nat.{ℕ, ◌<◌}
use native.Mathlib.Decide.{ℕ_discrete}
use native.Mathlib.Omega.{arith}
use borrow.Author.Tests.{eq-eqb, ne_eqb}
use lib.Dec.{ltb}
use lib.ListN.{length, get_or, set, length-set}
use lib.Seq.{get_or-set_same, get_or-set_other}
use Rattle.packed.specs.declared.layout.Node.{Node}
use Rattle.kinds.specs.Kinds.{row_of}
use Rattle.tree.specs.Tree.{heading, marked, says, Holds}

module _ (l : List ℕ) (n to kind : ℕ) (long : length l ≡ 4096) where
  -- no chain, or none that goes on to a greater number
  pub mark_none : ltb 0 kind && ltb n to ≡ false → Holds l (λ m. marked n to kind m (get_or l m 0))
  mark_none e = record { long = long; at = λ m _. rw e }

  pub mark_one : to < 4096 → ltb 0 kind && ltb n to ≡ true → Holds (set l to kind) (λ m. marked n to kind m (get_or l m 0))
  mark_one h e = record { long = length-set l to kind ∙ long; at = λ m _. go m (ℕ_discrete m to) }
    where
      go : (m : ℕ) → Dec (m ≡ to) → get_or (set l to kind) m 0 ≡ marked n to kind m (get_or l m 0)
      go m (yes s) = let here : to < length l = omega arith in rw (s, e, eq-eqb to to refl) (get_or-set_same l to kind 0 here)
      go m (no s) = rw (e, ne_eqb to m (λ q. s (sym q))) (get_or-set_other l to m kind 0 s)

-- what a node says depends on what is said of it and of the other node alone
pub says_same : (n : ℕ) (d : Node) (f g : ℕ → ℕ) (m : ℕ) → f n ≡ g n → f m ≡ g m → says n d f m ≡ says n d g m
says_same n d f g m p q = ap₂ (λ (x y : ℕ). marked n d.a (heading d.kind (row_of d.kind).a) m (marked n d.next x m y)) p q
