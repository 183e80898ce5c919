-- The laws of items: pending items copied to the cells after a head, and given back. Assumes nothing.
use mathlib.Core.Path.{◌≡◌, refl, sym, ap, ap₂, ◌∙◌}
use mathlib.Core.Logic.{inr}
use mathlib.Core.Bool.{true, false}
use mathlib.Core.List.{List, [], ◌∷◌, ◌++◌, map, append-nil, append_assoc, map-append}
use mathlib.Core.Option.{some}
use Prim.Native.Nat.{ℕ, suc, ◌+◌, ◌-◌, ◌*◌, ◌≤◌, ◌<◌}
use native.Mathlib.Omega.{arith}
use borrow.Author.Tests.{le-leb, lt-leb}
use lib.ListN.{length, get_or, set, drop, length-drop, length-map}
use lib.Seq.{sets, length-sets, get_or-set_other}
use Rattle.rules.specs.declared.Value.{Value}
use Rattle.rules.specs.Store.{Cell, head, item, with_cells, dropped}
use Rattle.slots.specs.Slot.{value_of}
use Rattle.stores.specs.Stores.{bound_of, pending_of, cells_of, cell_in, pendings_in, cells_in, store_of, Fits, Became, Tried, TriedWords}
use Rattle.boxes.specs.Cells.{CopiedItems, head_words, items_taken}
use Rattle.slots.proofs.Rows.{stores_4}
use Rattle.stores.proofs.Regions.{bindings_apart, pendings_apart, in_cells, fits_words, fits_stored}
use Rattle.stores.proofs.Numbers.{cells_set}
use Rattle.stores.proofs.PendingLaws.{pendings_none, pendings_more, pendings_since, length-pending}
use Rattle.boxes.proofs.CellLaws.{what_kind, what_owner, length-cells, cells_push}
use Rattle.stores.proofs.Chains.{refused, made, became_then}
use Rattle.stores.proofs.Counted.{cells_counted, recounted}
use Rattle.stores.specs.declared.run.Run.{Run}
use Rattle.stores.specs.Run.{set_cells}

-- ---- items copied

abbrev item_words : ℕ → ℕ → ℕ → List ℕ
item_words owner payload kind = payload ∷ kind ∷ (4 * owner + 1) ∷ 0 ∷ []

item_words_lem : (owner payload kind : ℕ) → cell_in (item_words owner payload kind) ≡ item owner (value_of kind payload)
unfolding cell_in
item_words_lem owner payload kind = rw (what_kind owner 1 (omega arith), what_owner owner 1 (omega arith))

pub copied_none : (at from : ℕ) (words : List ℕ) → CopiedItems at from 0 words words
copied_none at from words =
    let same : at + 1 + 0 ≡ at + 1 = omega arith in
    record {
      long = refl;
      cells =
          ap (λ (n : ℕ). cells_in n words) same
          ∙ sym (ap (λ (vs : List Value). cells_in (at + 1) words ++ map (item at) vs) (pendings_none from (from + 0) words (omega arith)) ∙ append-nil (cells_in (at + 1) words));
      bindings = λ n most. refl;
      pendings = λ n most. refl;
    }

-- one item more: `words₀` as they were, `words` with i items copied
module _ (at from i : ℕ) (words₀ words : List ℕ) where
  abbrev payload : ℕ
  payload = get_or words (768 + 2 * (from + i)) 0

  abbrev kind : ℕ
  kind = get_or words (769 + 2 * (from + i)) 0

  abbrev place : ℕ
  place = 1792 + 4 * (at + 1 + i)

  copied_stored : CopiedItems at from i words₀ words → at + 1 + i < 1024 → from + i < 512 → 8192 ≤ length words₀ → CopiedItems at from (i + 1) words₀ (sets words place (item_words at payload kind))
  copied_stored done room fewer long =
      let vs = item_words at payload kind in
      let v = value_of kind payload in
      let before = cells_in (at + 1) words₀ in
      let items = drop from (pendings_in (from + i) words₀) in
      let cells_next : at + 1 + (i + 1) ≡ at + 1 + i + 1 = omega arith in
      let pendings_next : from + (i + 1) ≡ from + i + 1 = omega arith in
      let more : drop from (pendings_in (from + (i + 1)) words₀) ≡ items ++ (v ∷ []) =
      ap (λ (n : ℕ). drop from (pendings_in n words₀)) pendings_next
      ∙ ap (drop from) (sym (done.pendings (from + i + 1) (omega arith)))
      ∙ pendings_more from (from + i) words (omega arith)
      ∙ ap (λ (ps : List Value). drop from ps ++ (v ∷ [])) (done.pendings (from + i) (omega arith)) in
      record {
        long = length-sets words place vs ∙ done.long;
        cells =
            ap (λ (n : ℕ). cells_in n (sets words place vs)) cells_next
            ∙ cells_push (at + 1 + i) words vs room (omega (arith, done.long)) refl
            ∙ ap₂ (λ (cs : List Cell) (x : Cell). cs ++ (x ∷ [])) done.cells (item_words_lem at payload kind)
            ∙ append_assoc before (map (item at) items) (item at v ∷ [])
            ∙ ap (λ (cs : List Cell). before ++ cs) (sym (ap (map (item at)) more ∙ map-append (item at) items (v ∷ [])));
        bindings = λ n most. bindings_apart words vs place n most (omega arith) ∙ done.bindings n most;
        pendings = λ n most. pendings_apart words vs place n most (inr (omega arith)) ∙ done.pendings n most;
      }

  -- as the code stores it: the kind is read once the payload is stored, which does not change it
  pub copied_more : CopiedItems at from i words₀ words → at + 1 + i < 1024 → from + i < 512 → 8192 ≤ length words₀
      → CopiedItems at from (i + 1) words₀ (set (set (set (set words place payload) (place + 1) (get_or (set words place payload) (769 + 2 * (from + i)) 0)) (place + 2) (4 * at + 1)) (place + 3) 0)
  copied_more done room fewer long =
      let left : get_or (set words place payload) (769 + 2 * (from + i)) 0 ≡ kind = get_or-set_other words place (769 + 2 * (from + i)) payload 0 (λ e. absurd (omega (arith, e))) in
      rw (left, stores_4 words place payload kind (4 * at + 1) 0) (copied_stored done room fewer long)

-- the rest of the store is as it was
module _ (at from count : ℕ) (run : Run) (words words' : List ℕ) (f : Fits run words) (copied : CopiedItems at from count words words') where
  store_copied : (bytes : List ℕ) → store_of run words' bytes ≡ with_cells (cells_in (cells_of run) words') (store_of run words bytes)
  unfolding store_of
  store_copied bytes = rw (copied.bindings (bound_of run) f.bindings, copied.pendings (pending_of run) f.pending)

  fits_copied : Fits run words'
  fits_copied = fits_words run words words' f copied.long

-- ---- items taken

-- those that are pending from `from` on, whether or not there are any
head_words_lem : (count : ℕ) → cell_in (head_words count) ≡ head count
unfolding cell_in
head_words_lem count = refl

module _ (from count : ℕ) (run : Run) (words : List ℕ) (f : Fits run words) (since : count ≡ pending_of run - from) where
  how_many : (bytes : List ℕ) → length (drop from (store_of run words bytes).pending) ≡ count
  how_many bytes = length-drop from (store_of run words bytes).pending ∙ ap (λ (n : ℕ). n - from) (length-pending run words bytes) ∙ sym since

  pub take-full : 1024 < cells_of run + 1 + count → TriedWords false (items_taken from) run words run words
  take-full full bytes =
      refused (items_taken from) f
      (rw (length-cells run words bytes, length-map (drop from (store_of run words bytes).pending) (item (length (store_of run words bytes).cells)), how_many bytes, lt-leb (cells_of run + suc count) 1024 (omega arith)))

  -- the words once the head is written
  abbrev headed : List ℕ
  headed = sets words (1792 + 4 * cells_of run) (head_words count)

  cells_taken : (words' bytes : List ℕ) → cells_of run + 1 + count ≤ 1024 → CopiedItems (cells_of run) from count headed words'
      → cells_in (cells_of run + 1 + count) words' ≡ (store_of run words bytes).cells ++ (head count ∷ map (item (cells_of run)) (drop from (store_of run words bytes).pending))
  unfolding store_of
  cells_taken words' bytes room copied =
      let n = cells_of run in
      copied.cells
      ∙ ap₂ (λ (cs : List Cell) (vs : List Value). cs ++ map (item n) vs)
      (cells_push n words (head_words count) (omega arith) f.words_length refl ∙ ap (λ (x : Cell). cells_in n words ++ (x ∷ [])) (head_words_lem count))
      (ap (λ (k : ℕ). drop from (pendings_in (from + k) headed)) since
      ∙ pendings_since from (pending_of run) headed
      ∙ ap (drop from) (pendings_apart words (head_words count) (1792 + 4 * n) (pending_of run) f.pending (inr (omega arith))))
      ∙ append_assoc (cells_in n words) (head count ∷ []) (map (item n) (drop from (store_of run words bytes).pending))

  pub take-made : (words' bytes : List ℕ) (run'' : Run) (words'' bytes'' : List ℕ) → cells_of run + 1 + count ≤ 1024 → CopiedItems (cells_of run) from count headed words'
      → Became (dropped from) (set_cells run (cells_of run + 1 + count)) words' bytes run'' words'' bytes'' → Tried true (items_taken from) run words bytes run'' words'' bytes''
  take-made words' bytes run'' words'' bytes'' room copied given_back =
      let n = cells_of run in
      let m = n + 1 + count in
      let σ = store_of run words bytes in
      let headed-fits = fits_stored run words bytes (head_words count) (1792 + 4 * n) f in
      let copied-fits = fits_copied n from count run headed words' headed-fits copied in
      let now-copied : Became (with_cells (cells_in m words')) run words bytes (set_cells run m) words' bytes =
      record {
        store =
            cells_set run words' bytes m
            ∙ ap (with_cells (cells_in m words')) (store_copied n from count run headed words' headed-fits copied bytes ∙ ap (with_cells _) (in_cells run words bytes (head_words count) (1792 + 4 * n) f (omega arith)));
        kept = (recounted cells_counted run words' m copied-fits room bytes).kept;
      } in
      made (items_taken from) _
      (rw (length-cells run words bytes, length-map (drop from σ.pending) (item (length σ.cells)), how_many bytes, le-leb (n + suc count) 1024 (omega arith))
      (ap (λ (cs : List Cell). some (dropped from (with_cells cs σ))) (sym (cells_taken words' bytes room copied))))
      (became_then now-copied given_back)
