-- Bindings and scopes: what their functions give and leave, by the definitions of the rules.
use Rattle.std.specs.Prelude.{ℕ, Option, ◌+◌, ◌≤◌, ◌≡◌, cond, List, ◌++◌, ltb, length, take, drop}
use Rattle.std.proofs.Math.Option.{Option as Changed, some, none}
use Rattle.rules.specs.declared.Value.{Value}
use Rattle.rules.specs.Store.{Store, most_bindings, with_bindings, with_scope, with_floor, opened, closed, dropped, sought, bound_at, arguments}
use Rattle.stores.specs.Finding.{found_of}
use Rattle.stores.specs.Stores.{store_of, bindings_in, pendings_in, cells_in}
use Rattle.stores.specs.declared.run.Run.{Run}

-- what is sought and read does not depend on text
pub record Sought (r : Option ℕ) (run : Run) (words : List ℕ) (name : ℕ) : Type 0 where
  pub is : (bytes : List ℕ) → r ≡ found_of (sought (store_of run words bytes) name)

pub record BoundAt (r : Value) (run : Run) (words : List ℕ) (i : ℕ) : Type 0 where
  pub is : (bytes : List ℕ) → r ≡ bound_at (store_of run words bytes) i

abbrev pub first_bindings : ℕ → Store → Store
first_bindings count σ = with_bindings (take count σ.bindings) σ

-- "The loop then drops every scope opened since its own"
abbrev pub broken_out : ℕ → ℕ → Store → Store
broken_out scope from σ = with_scope scope (first_bindings from σ)

-- "arguments first, then the count (24), then their bindings (10)": all of them or none
abbrev pub arguments_bound : ℕ → ℕ → Store → Changed Store
arguments_bound first from σ =
    cond (ltb most_bindings (length σ.bindings + length (drop from σ.pending))) none
    (some (with_floor (length σ.bindings) (with_bindings (σ.bindings ++ arguments first (drop from σ.pending)) (opened σ))))

abbrev pub call_ended : ℕ → ℕ → ℕ → Store → Store
call_ended scope floor pending σ = dropped pending (with_floor floor (closed scope σ))

-- the pending items from `from` on, so many, after the bindings that stand before `bound`
pub record Copied (bound first from count : ℕ) (words words' : List ℕ) : Type 0 where
  pub long : length words' ≡ length words
  pub bindings : bindings_in (bound + count) words' ≡ bindings_in bound words ++ arguments first (drop from (pendings_in (from + count) words))
  pub pendings : (n : ℕ) → n ≤ 512 → pendings_in n words' ≡ pendings_in n words
  pub cells : (n : ℕ) → cells_in n words' ≡ cells_in n words
