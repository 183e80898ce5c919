-- Kinds of items: what is built of them, and calls.
use Rattle.std.specs.Prelude.{ℕ, ◌≤◌, ◌≡◌, List}
use Rattle.packed.specs.declared.layout.Header.{Header}
use Rattle.packed.specs.Layout.{node_at}
use Rattle.rules.specs.Machine.{item_node}

pub data Builds : ℕ → Type 0 where
  templates : Builds 6
  vecs : Builds 13
  tuples : Builds 14
  objects : Builds 15

pub data Gathers : ℕ → Type 0 where
  built : {k : ℕ} → Builds k → Gathers k
  called : Gathers 16

-- an item of node n, and the expression that it evaluates
pub record IsItem (image : List ℕ) (h : Header) (n i : ℕ) : Type 0 where
  pub first : 1 ≤ i
  pub last : i ≤ h.nodes
  pub inner_first : ((node_at image h i).kind ≡ 17 → ⊥) → 1 ≤ item_node image h n i
  pub inner_last : ((node_at image h i).kind ≡ 17 → ⊥) → item_node image h n i ≤ h.nodes
