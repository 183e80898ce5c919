-- What an object makes of the store: a head and its entries, or nothing where there are not cells enough. Assumes nothing.
use mathlib.Core.Path.{◌≡◌, refl, sym, ap, ap₂, ◌∙◌}
use mathlib.Core.Logic.{inr}
use mathlib.Core.List.{List, [], ◌∷◌, ◌++◌, append_assoc}
use Prim.Native.Nat.{ℕ, ◌+◌, ◌*◌, ◌≤◌, ◌<◌}
use native.Mathlib.Nat.{le_refl}
use native.Mathlib.Omega.{arith}
use lib.ListN.{length, take, drop, length-map}
use lib.Seq.{sets, length-sets}
use Rattle.std.specs.Prelude.{Option, Some, None, Ok, Err}
use Rattle.packed.specs.declared.layout.Header.{Header}
use Rattle.packed.specs.Layout.{node_at}
use Rattle.rules.specs.declared.Value.{Value}
use Rattle.rules.specs.declared.Value.TheVariants.{Object}
use Rattle.rules.specs.declared.Refusal.TheVariants.{Cells}
use Rattle.rules.specs.Targets.{refusing}
use Rattle.rules.specs.Store.{Cell, head as head_cell, entry, with_cells, dropped}
use Rattle.rules.specs.Building.{gives, refuses, boxed, entries, entry_cells}
use Rattle.rules.specs.Machine.{whole_chain}
use Rattle.stores.specs.Stores.{bound_of, pending_of, cells_of, cell_in, bindings_in, pendings_in, cells_in, store_of, Fits, Became, MakesWords, Makes}
use Rattle.boxes.specs.Cells.{head_words}
use Rattle.entries.specs.Entries.{entries_of}
use Rattle.building.specs.Making.{object_made, entries_in, EntriesPut}
use Rattle.stores.proofs.Views.{view_push, view_apart, view_take}
use Rattle.stores.proofs.Regions.{bindings_apart, pendings_apart, fits_words}
use Rattle.stores.proofs.Numbers.{cells_set, fits_cells}
use Rattle.stores.proofs.Chains.{kept_same, kept_then}
use Rattle.stores.proofs.Counted.{cells_counted, recounted}
use Rattle.boxes.proofs.CellLaws.{length-cells}
use Rattle.building.proofs.MakingLaws.{cells_taken, cells_refused}
use Rattle.building.proofs.ObjectLaws.{ended_at, not_ended_at}
use Rattle.stores.specs.declared.run.Run.{Run}
use Rattle.stores.specs.Run.{set_cells}

module _ (image : List ℕ) (h : Header) (n from : ℕ) (run : Run) (words : List ℕ) (f : Fits run words) where
  abbrev top : ℕ
  top = cells_of run

  -- the entries that the object is to have
  abbrev all : List (ℕ × Value)
  all = entries_in image h n from (pending_of run) words

  all_refused : (bytes : List ℕ) → 1024 < top + 1 + length all → object_made image h n from (store_of run words bytes) ≡ refuses Cells n
  unfolding store_of
  all_refused bytes over =
      let σ = store_of run words bytes in
      let size = length-map all (λ (e : ℕ × Value). entry (length σ.cells) e.0 e.1) in
      ap (boxed n (Object (length σ.cells))) (cells_refused (dropped from σ) (entry_cells σ all) (omega (arith, length-cells run words bytes)))

  pub object_full : 1024 ≤ top → MakesWords (Err (refusing Cells n)) (object_made image h n from) run words run words
  object_full full bytes =
      record {
        did = all_refused bytes (omega arith);
        undone = λ r e. refl;
        kept = kept_same f;
      }

  abbrev headed : List ℕ
  headed = sets words (1792 + 4 * top) (head_words 0)

  module _ (below : top < 1024) (r : Option ℕ) (words' : List ℕ) (put : EntriesPut image h n top from (pending_of run) r headed words') where
    same_bindings : bindings_in (bound_of run) words' ≡ bindings_in (bound_of run) words
    same_bindings = put.bindings (bound_of run) f.bindings ∙ bindings_apart words (head_words 0) (1792 + 4 * top) (bound_of run) f.bindings (omega arith)

    headed_pendings : pendings_in (pending_of run) headed ≡ pendings_in (pending_of run) words
    headed_pendings = pendings_apart words (head_words 0) (1792 + 4 * top) (pending_of run) f.pending (inr (omega arith))

    same_pendings : pendings_in (pending_of run) words' ≡ pendings_in (pending_of run) words
    same_pendings = put.pendings (pending_of run) f.pending ∙ headed_pendings

    same_cells : cells_in top words' ≡ cells_in top words
    unfolding cells_in
    same_cells =
        sym (view_take cell_in 1792 4 top (top + 1) words' (omega arith))
        ∙ ap (take top) put.before
        ∙ view_take cell_in 1792 4 top (top + 1) headed (omega arith)
        ∙ view_apart cell_in 1792 4 top words (head_words 0) (1792 + 4 * top) (inr (le_refl (1792 + 4 * top)))

    same_store : (bytes : List ℕ) → store_of run words' bytes ≡ store_of run words bytes
    unfolding store_of
    same_store bytes = rw (same_bindings, same_pendings, same_cells)

    same_entries : entries_in image h n from (pending_of run) headed ≡ all
    same_entries = ap (λ (vs : List Value). entries image h (whole_chain image h (node_at image h n).a) (drop from vs) []) headed_pendings

    still_fits : Fits run words'
    still_fits = fits_words run words words' f (put.long ∙ length-sets words (1792 + 4 * top) (head_words 0))

    pub object_over : r ≡ None → MakesWords (Err (refusing Cells n)) (object_made image h n from) run words run words'
    object_over none bytes =
        let over = not_ended_at (top + 1 + length (entries_in image h n from (pending_of run) headed)) (sym none ∙ put.ends) in
        record {
          did = all_refused bytes (omega (arith, over, ap length same_entries));
          undone = λ r e. same_store bytes;
          kept = kept_same still_fits;
        }

    -- the head, and then the entries
    new_cells : (end : ℕ) → r ≡ Some end → cells_in end words' ≡ cells_in top words ++ (head_cell 0 ∷ entries_of top all)
    unfolding cells_in cell_in
    new_cells end is =
        put.entries end is
        ∙ ap₂ (λ (cs : List Cell) (es : List (ℕ × Value)). cs ++ entries_of top es)
        (view_push cell_in 1792 4 top words (head_words 0) refl (omega (arith, f.words_length)))
        same_entries
        ∙ append_assoc (cells_in top words) (head_cell 0 ∷ []) (entries_of top all)

    module _ (end : ℕ) (is : r ≡ Some end) where
      pub last : (end ≡ top + 1 + length (entries_in image h n from (pending_of run) headed)) × (end ≤ 1024)
      last = ended_at (top + 1 + length (entries_in image h n from (pending_of run) headed)) end (sym is ∙ put.ends)

      pub ended_fits : Fits (set_cells run end) words'
      ended_fits = fits_cells run words' end still_fits last.1

      -- the items given back
      module _ (bytes : List ℕ) (run'' : Run) (words'' bytes'' : List ℕ) (given_back : Became (dropped from) (set_cells run end) words' bytes run'' words'' bytes'') where
        new_store : store_of run'' words'' bytes'' ≡ with_cells (cells_in top words ++ (head_cell 0 ∷ entries_of top all)) (dropped from (store_of run words bytes))
        new_store = given_back.store ∙ ap (dropped from) (cells_set run words' bytes end ∙ ap₂ with_cells (new_cells end is) (same_store bytes))

        all_taken : object_made image h n from (store_of run words bytes) ≡ gives (Object top) (store_of run'' words'' bytes'')
        unfolding store_of
        all_taken =
            let σ = store_of run words bytes in
            let size = length-map all (λ (e : ℕ × Value). entry (length σ.cells) e.0 e.1) in
            ap (boxed n (Object (length σ.cells)))
            (cells_taken (dropped from σ) (entry_cells σ all) (omega (arith, length-cells run words bytes, last.0, last.1, ap length same_entries)))
            ∙ ap (λ (k : ℕ). gives (Object k) (with_cells (cells_in top words ++ (head_cell 0 ∷ entries_of k all)) (dropped from σ))) (length-cells run words bytes)
            ∙ ap (gives (Object top)) (sym new_store)

        pub object_made_lem : Makes (Ok (Object top)) (object_made image h n from) run words bytes run'' words'' bytes''
        object_made_lem =
            record {
              did = all_taken;
              undone = λ r e. absurd (cc);
              kept = kept_then (recounted cells_counted run words' end still_fits last.1 bytes).kept given_back.kept;
            }
