-- One of the run's numbers stored anew: what the store is then, and that it still fits. Assumes nothing.
use mathlib.Core.Path.{◌≡◌, refl}
use mathlib.Core.List.{List}
use Prim.Native.Nat.{ℕ, ◌≤◌}
use lib.ListN.{take}
use Rattle.rules.specs.Store.{with_cells, with_text, with_bindings, with_scope, with_floor, with_pending}
use Rattle.stores.specs.declared.run.Run.{Run}
use Rattle.stores.specs.Run.{set_takes, set_bound, set_scope, set_floor, set_pending, set_cells, set_text}
use Rattle.stores.specs.Stores.{cells_in, bindings_in, pendings_in, store_of, Fits, Kept}

module _ (run : Run) (words : List ℕ) (x : ℕ) (f : Fits run words) where
  pub fits_takes : Fits (set_takes run x) words
  fits_takes = record { words_length = f.words_length; bindings = f.bindings; pending = f.pending; cells = f.cells; text = f.text }

  pub fits_scope : Fits (set_scope run x) words
  fits_scope = record { words_length = f.words_length; bindings = f.bindings; pending = f.pending; cells = f.cells; text = f.text }

  pub fits_floor : Fits (set_floor run x) words
  fits_floor = record { words_length = f.words_length; bindings = f.bindings; pending = f.pending; cells = f.cells; text = f.text }

  pub fits_bound : x ≤ 256 → Fits (set_bound run x) words
  fits_bound most = record { words_length = f.words_length; bindings = most; pending = f.pending; cells = f.cells; text = f.text }

  pub fits_pending : x ≤ 512 → Fits (set_pending run x) words
  fits_pending most = record { words_length = f.words_length; bindings = f.bindings; pending = most; cells = f.cells; text = f.text }

  pub fits_cells : x ≤ 1024 → Fits (set_cells run x) words
  fits_cells most = record { words_length = f.words_length; bindings = f.bindings; pending = f.pending; cells = most; text = f.text }

  pub fits_text : x ≤ 16384 → Fits (set_text run x) words
  fits_text most = record { words_length = f.words_length; bindings = f.bindings; pending = f.pending; cells = f.cells; text = most }

-- so much text built
pub kept_text : (run : Run) (words : List ℕ) (x : ℕ) (bytes : List ℕ) → Fits run words → x ≤ 16384 → Kept run bytes (set_text run x) words bytes
kept_text run words x bytes f most = record { fits = fits_text run words x f most; room = refl; takes = refl }

-- the store with one of its numbers another
module _ (run : Run) (words bytes : List ℕ) (x : ℕ) where
  pub takes_set : store_of (set_takes run x) words bytes ≡ store_of run words bytes
  unfolding store_of
  takes_set = refl

  pub bound_set : store_of (set_bound run x) words bytes ≡ with_bindings (bindings_in x words) (store_of run words bytes)
  unfolding store_of
  bound_set = refl

  pub scope_set : store_of (set_scope run x) words bytes ≡ with_scope x (store_of run words bytes)
  unfolding store_of
  scope_set = refl

  pub floor_set : store_of (set_floor run x) words bytes ≡ with_floor x (store_of run words bytes)
  unfolding store_of
  floor_set = refl

  pub pending_set : store_of (set_pending run x) words bytes ≡ with_pending (pendings_in x words) (store_of run words bytes)
  unfolding store_of
  pending_set = refl

  pub cells_set : store_of (set_cells run x) words bytes ≡ with_cells (cells_in x words) (store_of run words bytes)
  unfolding store_of
  cells_set = refl

  pub text_set : store_of (set_text run x) words bytes ≡ with_text (take x bytes) (store_of run words bytes)
  unfolding store_of
  text_set = refl
