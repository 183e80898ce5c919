-- The entries of an object, put one after the other. Assumes nothing.
use mathlib.Core.Path.{◌≡◌, refl, sym, ap, ap₂, ◌∙◌}
use mathlib.Core.Bool.{Bool, true, false, cond}
use mathlib.Core.List.{List, [], ◌∷◌, ◌++◌, append-nil}
use Prim.Native.Nat.{ℕ, suc, ◌+◌, ◌≤◌, ◌<◌}
use native.Mathlib.Nat.{le_refl}
use native.Mathlib.Numerals.{add-one}
use native.Mathlib.Omega.{arith}
use borrow.Author.Tests.{le-leb, lt-leb, leb-true, leb-false}
use lib.Dec.{leb}
use lib.ListN.{length, get_or, drop}
use lib.Seq.{drop-cons}
use Rattle.std.specs.Prelude.{Option, Some, None}
use Rattle.packed.specs.declared.layout.Header.{Header}
use Rattle.packed.specs.Layout.{node_at, literal_at}
use Rattle.image.proofs.Chains.{Along, begins}
use Rattle.rules.specs.declared.Value.{Value}
use Rattle.rules.specs.declared.Value.TheVariants.{Unit as VUnit}
use Rattle.rules.specs.Store.{part_text, same_text}
use Rattle.rules.specs.Building.{entered, entries}
use Rattle.rules.specs.Machine.{onward, whole_chain}
use Rattle.stores.specs.View.{rec_at}
use Rattle.stores.proofs.PendingLaws.{pendings_none}
use Rattle.stores.specs.Stores.{pending_in, bindings_in, pendings_in, cells_in}
use Rattle.entries.specs.Entries.{entries_of, object_end, EntryPut}
use Rattle.building.specs.Making.{IsKind, entries_in, EntriesPut}
use Rattle.stores.proofs.Views.{length-view, view_get}
use Rattle.building.proofs.ChainLaws.{whole_none, whole_more, along_onward, entry_there}

-- ---- the pending items from one on

pending_get : (to at : ℕ) (words : List ℕ) → at < to → get_or (pendings_in to words) at VUnit ≡ pending_in (rec_at 768 2 at words)
unfolding pendings_in
pending_get to at words below = view_get pending_in 768 2 to at words VUnit below

pub pendings_more : (to at : ℕ) (words : List ℕ) → at < to → drop at (pendings_in to words) ≡ pending_in (rec_at 768 2 at words) ∷ drop (at + 1) (pendings_in to words)
unfolding pendings_in
pendings_more to at words below =
    drop-cons (pendings_in to words) at VUnit (omega (arith, length-view pending_in 768 2 to words))
    ∙ ap₂ (λ (v : Value) (k : ℕ). v ∷ drop k (pendings_in to words)) (pending_get to at words below) (sym (add-one at))

-- ---- where an object ends

module _ (n : ℕ) where
  pub end_at : n ≤ 1024 → Some n ≡ object_end n
  end_at most = rw (le-leb n 1024 most)

  no_end_at : 1024 < n → None ≡ object_end n
  no_end_at over = rw (lt-leb n 1024 over)

  pub ended_at : (end : ℕ) → Some end ≡ object_end n → (end ≡ n) × (end ≤ 1024)
  ended_at end e = go (leb n 1024) refl e
    where
      go : (b : Bool) → leb n 1024 ≡ b → Some end ≡ cond b (Some n) None → (end ≡ n) × (end ≤ 1024)
      go true t q = let same : end ≡ n = cc in (same, omega (arith, leb-true n 1024 t))
      go false t q = absurd (cc)

  pub not_ended_at : None ≡ object_end n → 1024 < n
  not_ended_at e = go (leb n 1024) refl e
    where
      go : (b : Bool) → leb n 1024 ≡ b → None ≡ cond b (Some n) None → 1024 < n
      go true t q = absurd (cc)
      go false t q = leb-false n 1024 t

-- ---- entries are never fewer

module _ (image : List ℕ) (h : Header) where
  entered_grows : (es : List (ℕ × Value)) (key : ℕ) (v : Value) → length es ≤ length (entered image h es key v)
  unfolding entered
  entered_grows [] key v = omega arith
  entered_grows (e ∷ es) key v = go (same_text (part_text image h e.0) (part_text image h key)) (entered_grows es key v)
    where
      go : (b : Bool) → length es ≤ length (entered image h es key v) → suc (length es) ≤ length (cond b ((e.0, v) ∷ es) (e ∷ entered image h es key v))
      go true grows = le_refl (suc (length es))
      go false grows = omega arith

  entries_grow : (is : List ℕ) (vs : List Value) (es : List (ℕ × Value)) → length es ≤ length (entries image h is vs es)
  unfolding entries
  entries_grow [] vs es = le_refl (length es)
  entries_grow (i ∷ is) [] es = le_refl (length es)
  entries_grow (i ∷ is) (v ∷ vs) es =
      let key = (literal_at image h (node_at image h i).a).payload in
      omega (arith, entered_grows es key v, entries_grow is vs (entered image h es key v))

-- ---- the loop

-- es stand in the cells up to end, and the rest of the chain with the pending items from `at` on makes of them the entries of the object
pub record Entering (image : List ℕ) (h : Header) (n head from to : ℕ) (words₀ words : List ℕ) (end at i : ℕ) : Type 0 where
  pub long : length words ≡ length words₀
  pub bindings : (m : ℕ) → m ≤ 256 → bindings_in m words ≡ bindings_in m words₀
  pub pendings : (m : ℕ) → m ≤ 512 → pendings_in m words ≡ pendings_in m words₀
  pub before : cells_in (head + 1) words ≡ cells_in (head + 1) words₀
  pub es : List (ℕ × Value)
  pub ends : end ≡ head + 1 + length es
  pub most : end ≤ 1024
  pub stand : cells_in end words ≡ cells_in (head + 1) words₀ ++ entries_of head es
  pub rest : entries image h (whole_chain image h i) (drop at (pendings_in to words₀)) es ≡ entries_in image h n from to words₀
  pub along : (i ≡ 0 → ⊥) → Along image h n i

module _ (image : List ℕ) (h : Header) (n head from to : ℕ) (words₀ : List ℕ) where
  pub entering_begins : head < 1024 → Entering image h n head from to words₀ words₀ (head + 1) from (node_at image h n).a
  entering_begins below =
      record {
        long = refl;
        bindings = λ m most. refl;
        pendings = λ m most. refl;
        before = refl;
        es = [];
        ends = omega arith;
        most = omega arith;
        stand = sym (append-nil (cells_in (head + 1) words₀));
        rest = refl;
        along = λ some. begins refl some;
      }

  -- the last one is put
  entering_ends : (words : List ℕ) (end at i : ℕ) (e : Entering image h n head from to words₀ words end at i) → e.es ≡ entries_in image h n from to words₀
      → EntriesPut image h n head from to (Some end) words₀ words
  entering_ends words end at i e all =
      record {
        long = e.long;
        bindings = e.bindings;
        pendings = e.pendings;
        before = e.before;
        ends =
            let same : end ≡ head + 1 + length (entries_in image h n from to words₀) = e.ends ∙ ap (λ (es : List (ℕ × Value)). head + 1 + length es) all in
            ap Some same ∙ end_at (head + 1 + length (entries_in image h n from to words₀)) (omega (arith, e.most));
        entries = λ r q. let same : end ≡ r = cc in ap (λ (k : ℕ). cells_in k words) (sym same) ∙ e.stand ∙ ap (λ (es : List (ℕ × Value)). cells_in (head + 1) words₀ ++ entries_of head es) all;
      }

  nothing_left : (is : List ℕ) (es : List (ℕ × Value)) → entries image h is [] es ≡ es
  unfolding entries
  nothing_left [] es = refl
  nothing_left (i ∷ is) es = refl

  pub items_end : (words : List ℕ) (end at i : ℕ) → Entering image h n head from to words₀ words end at i → to ≤ at → EntriesPut image h n head from to (Some end) words₀ words
  items_end words end at i e past =
      entering_ends words end at i e
      (sym (nothing_left (whole_chain image h i) e.es)
      ∙ ap (λ (vs : List Value). entries image h (whole_chain image h i) vs e.es) (sym (pendings_none at to words₀ past))
      ∙ e.rest)

  pub chain_ends : (words : List ℕ) (end at i : ℕ) → Entering image h n head from to words₀ words end at i → i ≡ 0 → EntriesPut image h n head from to (Some end) words₀ words
  unfolding entries
  chain_ends words end at i e z =
      entering_ends words end at i e
      (ap (λ (is : List ℕ). entries image h is (drop at (pendings_in to words₀)) e.es) (sym (whole_none image h i z)) ∙ e.rest)

  -- one more is put
  module _ (words : List ℕ) (end at i : ℕ) (r : Option ℕ) (words' : List ℕ)
      (object : IsKind 15 image h n) (e : Entering image h n head from to words₀ words end at i) (some : i ≡ 0 → ⊥) (below : at < to) (few : to ≤ 512)
      (put : EntryPut image h head end (literal_at image h (node_at image h i).a).payload at r words words') where
    abbrev v : Value
    v = pending_in (rec_at 768 2 at words)

    abbrev es' : List (ℕ × Value)
    es' = entered image h e.es (literal_at image h (node_at image h i).a).payload v

    stands : cells_in end words ≡ cells_in (head + 1) words ++ entries_of head e.es
    stands = e.stand ∙ ap (λ (cs : List _). cs ++ entries_of head e.es) (sym e.before)

    same_item : v ≡ pending_in (rec_at 768 2 at words₀)
    same_item = sym (pending_get to at words below) ∙ ap (λ (vs : List Value). get_or vs at VUnit) (e.pendings to few) ∙ pending_get to at words₀ below

    rest_more : entries image h (whole_chain image h (onward image h i)) (drop (at + 1) (pendings_in to words₀)) es' ≡ entries_in image h n from to words₀
    unfolding entries
    rest_more =
        let there = entry_there image h n object i (e.along some) in
        ap (λ (u : Value). entries image h (whole_chain image h (onward image h i)) (drop (at + 1) (pendings_in to words₀)) (entered image h e.es (literal_at image h (node_at image h i).a).payload u)) same_item
        ∙ ap₂ (λ (is : List ℕ) (vs : List Value). entries image h is vs e.es) (sym (whole_more image h object.loaded i some there.1)) (sym (pendings_more to at words₀ below))
        ∙ e.rest

    pub entering_more : (next : ℕ) → r ≡ Some next → Entering image h n head from to words₀ words' next (at + 1) (onward image h i)
    entering_more next is =
        let last = ended_at (head + 1 + length es') next (sym is ∙ put.ends e.es stands) in
        record {
          long = put.long ∙ e.long;
          bindings = λ m most. put.bindings m most ∙ e.bindings m most;
          pendings = λ m most. put.pendings m most ∙ e.pendings m most;
          before = put.before ∙ e.before;
          es = es';
          ends = last.0;
          most = last.1;
          stand = put.entries e.es stands next is ∙ ap (λ (cs : List _). cs ++ entries_of head es') e.before;
          rest = rest_more;
          along = along_onward image h n i (e.along some);
        }

    pub entering_full : r ≡ None → EntriesPut image h n head from to None words₀ words'
    entering_full none =
        let grown = entries_grow image h (whole_chain image h (onward image h i)) (drop (at + 1) (pendings_in to words₀)) es' in
        let over = not_ended_at (head + 1 + length es') (sym none ∙ put.ends e.es stands) in
        record {
          long = put.long ∙ e.long;
          bindings = λ m most. put.bindings m most ∙ e.bindings m most;
          pendings = λ m most. put.pendings m most ∙ e.pendings m most;
          before = put.before ∙ e.before;
          ends = no_end_at (head + 1 + length (entries_in image h n from to words₀)) (omega (arith, grown, ap length rest_more));
          entries = λ end q. absurd (cc);
        }
