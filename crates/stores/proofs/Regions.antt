-- The regions of the words: a run of stores in one leaves the others. Assumes nothing.
use mathlib.Core.Path.{◌≡◌}
use mathlib.Core.Logic.{◌⊎◌, inl, inr}
use mathlib.Core.List.{List}
use Prim.Native.Nat.{ℕ, ◌+◌, ◌≤◌}
use native.Mathlib.Omega.{arith}
use lib.ListN.{length}
use lib.Seq.{sets, length-sets}
use Rattle.rules.specs.Store.{with_cells, with_bindings, with_pending}
use Rattle.stores.specs.Stores.{bound_of, pending_of, cells_of, binding_in, pending_in, cell_in, cells_in, bindings_in, pendings_in, store_of, Fits}
use Rattle.stores.proofs.Views.{view_apart}
use Rattle.stores.specs.declared.run.Run.{Run}

module _ (l vs : List ℕ) (at : ℕ) where
  pub bindings_apart : (n : ℕ) → n ≤ 256 → 768 ≤ at → bindings_in n (sets l at vs) ≡ bindings_in n l
  unfolding bindings_in
  bindings_apart n most past = view_apart binding_in 0 3 n l vs at (inr (omega arith))

  pub pendings_apart : (n : ℕ) → n ≤ 512 → (at + length vs ≤ 768) ⊎ (1792 ≤ at) → pendings_in n (sets l at vs) ≡ pendings_in n l
  unfolding pendings_in
  pendings_apart n most (inl before) = view_apart pending_in 768 2 n l vs at (inl before)
  pendings_apart n most (inr past) = view_apart pending_in 768 2 n l vs at (inr (omega arith))

  pub cells_apart : (n : ℕ) → at + length vs ≤ 1792 → cells_in n (sets l at vs) ≡ cells_in n l
  unfolding cells_in
  cells_apart n before = view_apart cell_in 1792 4 n l vs at (inl before)

-- other words, as many
pub fits_words : (run : Run) (words words' : List ℕ) → Fits run words → length words' ≡ length words → Fits run words'
fits_words run words words' f long =
    record {
      words_length = omega (arith, f.words_length, long);
      bindings = f.bindings;
      pending = f.pending;
      cells = f.cells;
      text = f.text;
    }

-- stores in one region make another list of it alone
module _ (run : Run) (words bytes vs : List ℕ) (at : ℕ) (f : Fits run words) where
  pub in_bindings : at + length vs ≤ 768 → store_of run (sets words at vs) bytes ≡ with_bindings (bindings_in (bound_of run) (sets words at vs)) (store_of run words bytes)
  unfolding store_of
  in_bindings h = rw (pendings_apart words vs at (pending_of run) f.pending (inl h), cells_apart words vs at (cells_of run) (omega arith))

  pub in_pendings : 768 ≤ at → at + length vs ≤ 1792 → store_of run (sets words at vs) bytes ≡ with_pending (pendings_in (pending_of run) (sets words at vs)) (store_of run words bytes)
  unfolding store_of
  in_pendings g h = rw (bindings_apart words vs at (bound_of run) f.bindings g, cells_apart words vs at (cells_of run) h)

  pub in_cells : 1792 ≤ at → store_of run (sets words at vs) bytes ≡ with_cells (cells_in (cells_of run) (sets words at vs)) (store_of run words bytes)
  unfolding store_of
  in_cells g = rw (bindings_apart words vs at (bound_of run) f.bindings (omega arith), pendings_apart words vs at (pending_of run) f.pending (inr g))

  pub fits_stored : Fits run (sets words at vs)
  fits_stored = fits_words run words (sets words at vs) f (length-sets words at vs)
