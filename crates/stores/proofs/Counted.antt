-- The lists of the store that lie in the words, each counted by one of the run's numbers: its first records, one more, one anew. Assumes nothing.
use mathlib.Core.Path.{◌≡◌, refl, sym, ap, ◌∙◌}
use mathlib.Core.List.{List, [], ◌∷◌, ◌++◌}
use Prim.Native.Nat.{ℕ, suc, ◌+◌, ◌*◌, ◌≤◌, ◌<◌}
use native.Mathlib.Nat.{mul-le-mul_left, mul-suc}
use native.Mathlib.Omega.{arith}
use lib.ListN.{length, set, take, drop}
use lib.Seq.{sets, take_all}
use Rattle.rules.specs.declared.Value.{Value}
use Rattle.rules.specs.Store.{Cell, Store, Binding, most_bindings, most_pending, most_cells, with_bindings, with_pending, with_cells}
use Rattle.stores.specs.View.{rec_at, view}
use Rattle.stores.specs.Stores.{takes_of, bound_of, pending_of, cells_of, binding_in, pending_in, cell_in, bindings_in, pendings_in, cells_in, store_of, Fits, BecameRun, BecameWords}
use Rattle.stores.proofs.Views.{length-view, view_take, view_push, view_set}
use Rattle.stores.proofs.Regions.{in_bindings, in_pendings, in_cells, fits_stored}
use Rattle.stores.proofs.Numbers.{bound_set, pending_set, cells_set, fits_bound, fits_pending, fits_cells}
use Rattle.stores.specs.declared.run.Run.{Run}
use Rattle.stores.specs.Run.{set_bound, set_pending, set_cells}
use Rattle.stores.proofs.Chains.{kept_same, became_as, became_then}

-- a list of the store, where its records lie and which number counts them
pub record Region (R : Type 0) : Type 0 where
  pub part : Store → List R
  pub put : List R → Store → Store
  pub decode : List ℕ → R
  pub base : ℕ
  pub stride : ℕ
  pub most : ℕ
  pub count : Run → ℕ
  pub recount : Run → ℕ → Run

abbrev pub seen : {R : Type 0} → Region R → ℕ → List ℕ → List R
seen g n words = view g.decode g.base g.stride n words

-- the store has it so
pub record Counted {R : Type 0} (g : Region R) : Type 0 where
  pub put_same : (σ : Store) → g.put (g.part σ) σ ≡ σ
  pub put_put : (rs rs' : List R) (σ : Store) → g.put rs (g.put rs' σ) ≡ g.put rs σ
  pub inside : g.base + g.stride * g.most ≤ 8192
  pub takes : (run : Run) (x : ℕ) → takes_of (g.recount run x) ≡ takes_of run
  pub limited : (run : Run) (words : List ℕ) → Fits run words → g.count run ≤ g.most
  pub fits : (run : Run) (words : List ℕ) (x : ℕ) → Fits run words → x ≤ g.most → Fits (g.recount run x) words
  pub is : (run : Run) (words bytes : List ℕ) → g.part (store_of run words bytes) ≡ seen g (g.count run) words
  pub counts : (run : Run) (words bytes : List ℕ) (x : ℕ) → Fits run words → store_of (g.recount run x) words bytes ≡ g.put (seen g x words) (store_of run words bytes)
  pub stores : (run : Run) (words bytes : List ℕ) (at : ℕ) (vs : List ℕ) → Fits run words → g.base ≤ at → at + length vs ≤ g.base + g.stride * g.most
      → store_of run (sets words at vs) bytes ≡ g.put (seen g (g.count run) (sets words at vs)) (store_of run words bytes)

module _ {R : Type 0} {g : Region R} (q : Counted g) (run : Run) where
  pub length_part : (words bytes : List ℕ) → length (g.part (store_of run words bytes)) ≡ g.count run
  length_part words bytes = ap length (q.is run words bytes) ∙ length-view g.decode g.base g.stride (g.count run) words

  -- another number of records
  pub recounted : (words : List ℕ) (n : ℕ) → Fits run words → n ≤ g.most → BecameWords (g.put (seen g n words)) run words (g.recount run n) words
  recounted words n f h bytes =
      record {
        store = q.counts run words bytes n f;
        kept = record { fits = q.fits run words n f h; room = refl; takes = q.takes run n };
      }

  -- stores within the region
  stored : (words : List ℕ) (at : ℕ) (vs : List ℕ) → Fits run words → g.base ≤ at → at + length vs ≤ g.base + g.stride * g.most
      → BecameWords (g.put (seen g (g.count run) (sets words at vs))) run words run (sets words at vs)
  stored words at vs f above below bytes =
      record { store = q.stores run words bytes at vs f above below; kept = kept_same (fits_stored run words bytes vs at f) }

  -- the first n of more, and of no more than n
  pub fewer : (n : ℕ) → n ≤ g.count run → BecameRun (λ σ. g.put (take n (g.part σ)) σ) run (g.recount run n)
  fewer n h words bytes f =
      became_as (g.put (seen g n words)) _
      (ap (λ (rs : List R). g.put rs (store_of run words bytes))
      (sym (ap (take n) (q.is run words bytes) ∙ view_take g.decode g.base g.stride n (g.count run) words h)))
      (recounted words n f (omega (arith, q.limited run words f)) bytes)

  pub enough : (n : ℕ) → g.count run ≤ n → BecameRun (λ σ. g.put (take n (g.part σ)) σ) run run
  enough n h words bytes f =
      let σ = store_of run words bytes in
      record {
        store = sym (ap (λ (rs : List R). g.put rs σ) (take_all n (g.part σ) (omega (arith, length_part words bytes))) ∙ q.put_same σ);
        kept = kept_same f;
      }

  -- one record more, after the last
  pub one_more : (words : List ℕ) (at : ℕ) (vs : List ℕ) → Fits run words → at ≡ g.base + g.stride * g.count run → length vs ≡ g.stride → g.count run < g.most
      → BecameWords (λ σ. g.put (g.part σ ++ (g.decode vs ∷ [])) σ) run words (g.recount run (g.count run + 1)) (sets words at vs)
  one_more words at vs f place e room bytes =
      let n = g.count run in
      let σ = store_of run words bytes in
      let last : g.base + g.stride * n + g.stride ≤ g.base + g.stride * g.most = omega (arith, mul-suc g.stride n, mul-le-mul_left g.stride room) in
      became_as (λ τ. g.put (seen g (n + 1) (sets words at vs)) (g.put (seen g n (sets words at vs)) τ)) _
      (q.put_put _ _ σ
      ∙ ap (λ (rs : List R). g.put rs σ)
      (ap (λ (a : ℕ). seen g (n + 1) (sets words a vs)) place
      ∙ view_push g.decode g.base g.stride n words vs e (omega (arith, q.inside, f.words_length))
      ∙ ap (λ (rs : List R). rs ++ (g.decode vs ∷ [])) (sym (q.is run words bytes))))
      (became_then
      (stored words at vs f (omega arith) (omega arith) bytes)
      (recounted (sets words at vs) (n + 1) (fits_stored run words bytes vs at f) (omega arith) bytes))

  -- the first words of record i anew, the others kept
  pub one_anew : (words : List ℕ) (i at : ℕ) (vs : List ℕ) → Fits run words → at ≡ g.base + g.stride * i → length vs ≤ g.stride → i < g.count run
      → BecameWords (λ σ. g.put (set (g.part σ) i (g.decode (vs ++ drop (length vs) (rec_at g.base g.stride i words)))) σ) run words run (sets words at vs)
  one_anew words i at vs f place e below bytes =
      let n = g.count run in
      let most : n ≤ g.most = q.limited run words f in
      let under : suc i ≤ g.most = omega arith in
      let x = g.decode (vs ++ drop (length vs) (rec_at g.base g.stride i words)) in
      became_as (g.put (seen g n (sets words at vs))) _
      (ap (λ (rs : List R). g.put rs (store_of run words bytes))
      (ap (λ (a : ℕ). seen g n (sets words a vs)) place
      ∙ view_set g.decode g.base g.stride n i words vs below e (omega (arith, q.inside, f.words_length, mul-le-mul_left g.stride most))
      ∙ ap (λ (rs : List R). set rs i x) (sym (q.is run words bytes))))
      (stored words at vs f (omega arith) (omega (arith, mul-suc g.stride i, mul-le-mul_left g.stride under)) bytes)

abbrev pub the_bindings : Region Binding
the_bindings = record { part = λ σ. σ.bindings; put = with_bindings; decode = binding_in; base = 0; stride = 3; most = most_bindings; count = bound_of; recount = set_bound }

pub bindings_counted : Counted the_bindings
unfolding store_of bindings_in
bindings_counted =
    record {
      put_same = λ σ. refl;
      put_put = λ rs rs' σ. refl;
      inside = omega arith;
      takes = λ run x. refl;
      limited = λ run words f. f.bindings;
      fits = λ run words x f h. fits_bound run words x f h;
      is = λ run words bytes. refl;
      counts = λ run words bytes x f. bound_set run words bytes x;
      stores = λ run words bytes at vs f above below. in_bindings run words bytes vs at f (omega arith);
    }

abbrev pub the_pending : Region Value
the_pending = record { part = λ σ. σ.pending; put = with_pending; decode = pending_in; base = 768; stride = 2; most = most_pending; count = pending_of; recount = set_pending }

pub pending_counted : Counted the_pending
unfolding store_of pendings_in
pending_counted =
    record {
      put_same = λ σ. refl;
      put_put = λ rs rs' σ. refl;
      inside = omega arith;
      takes = λ run x. refl;
      limited = λ run words f. f.pending;
      fits = λ run words x f h. fits_pending run words x f h;
      is = λ run words bytes. refl;
      counts = λ run words bytes x f. pending_set run words bytes x;
      stores = λ run words bytes at vs f above below. in_pendings run words bytes vs at f above (omega arith);
    }

abbrev pub the_cells : Region Cell
the_cells = record { part = λ σ. σ.cells; put = with_cells; decode = cell_in; base = 1792; stride = 4; most = most_cells; count = cells_of; recount = set_cells }

pub cells_counted : Counted the_cells
unfolding store_of cells_in
cells_counted =
    record {
      put_same = λ σ. refl;
      put_put = λ rs rs' σ. refl;
      inside = omega arith;
      takes = λ run x. refl;
      limited = λ run words f. f.cells;
      fits = λ run words x f h. fits_cells run words x f h;
      is = λ run words bytes. refl;
      counts = λ run words bytes x f. cells_set run words bytes x;
      stores = λ run words bytes at vs f above below. in_cells run words bytes vs at f above;
    }
