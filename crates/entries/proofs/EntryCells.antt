-- An entry in its cell: the pending item copied, the cells that were entries before, and those that are then. Assumes nothing.
use mathlib.Core.Path.{◌≡◌, refl, sym, ap, ap₂, ◌∙◌, subst}
use mathlib.Core.Logic.{inr}
use mathlib.Core.Bool.{Bool, true, false, cond}
use mathlib.Core.List.{List, [], ◌∷◌, ◌++◌, map-append, append_assoc}
use mathlib.Core.Option.{some, none}
use Prim.Native.Nat.{ℕ, suc, ◌+◌, ◌-◌, ◌*◌, ◌/◌, ◌%◌, ◌≤◌, ◌<◌}
use native.Mathlib.Numerals.{add-one, add-two, add-three}
use native.Mathlib.Omega.{arith}
use borrow.Author.Tests.{ne_eqb, le-leb, lt-leb}
use Rattle.std.proofs.lemmas.List.{map-set, set-append_right}
use lib.Dec.{eqb}
use lib.ListN.{length, get_or, set, take, drop, length-append, length-drop, length-set, length-map, get_or-append, get_or-map}
use lib.Seq.{sets, length-sets, length-take-le, drop-cons, ext_get_or, get_or-set_other, get_or-drop, get_or-append-add}
use Rattle.packed.specs.declared.layout.Header.{Header}
use Rattle.rules.specs.declared.Value.{Value}
use Rattle.rules.specs.declared.Value.TheVariants.{Unit as VUnit}
use Rattle.rules.specs.Store.{Cell, head as head_cell, item, entry}
use Rattle.rules.specs.Building.{entered}
use Rattle.stores.specs.View.{rec_at}
use Rattle.stores.specs.Stores.{slot_in, pending_in, cell_in, cells_in}
use Rattle.std.specs.Prelude.{Option, Some, None}
use Rattle.entries.specs.Entries.{key_in, keys_in, key_at, entries_of, object_end, EntryPut}
use Rattle.slots.proofs.Rows.{stores_2}
use Rattle.stores.proofs.Views.{length-view, view_get, view_set, view_push, view_apart}
use Rattle.entries.proofs.EntryLaws.{keys_of, nothing, key_from, found_within, entered_new, entered_known}
use Rattle.stores.proofs.Regions.{bindings_apart, pendings_apart}

-- ---- a pending item's two words

words_two : (i : ℕ) (l : List ℕ) → 768 + 2 * i + 2 ≤ length l → rec_at 768 2 i l ≡ get_or l (768 + 2 * i) 0 ∷ get_or l (768 + 2 * i + 1) 0 ∷ []
unfolding rec_at
words_two i l long =
    let at = 768 + 2 * i in
    ap (take 2) (drop-cons l at 0 (omega arith) ∙ ap (λ (r : List ℕ). get_or l at 0 ∷ r) (drop-cons l (suc at) 0 (omega arith)))
    ∙ ap (λ (k : ℕ). get_or l at 0 ∷ get_or l k 0 ∷ []) (sym (add-one at))

-- they are copied one after the other, and the first store is not to the second word
pub copied : (i to : ℕ) (l : List ℕ) → i < 512 → 1792 ≤ to → to + 2 ≤ length l
    → set (set l to (get_or l (768 + 2 * i) 0)) (to + 1) (get_or (set l to (get_or l (768 + 2 * i) 0)) (768 + 2 * i + 1) 0) ≡ sets l to (rec_at 768 2 i l)
copied i to l below past long =
    let at = 768 + 2 * i in
    ap (set (set l to (get_or l at 0)) (to + 1)) (get_or-set_other l to (at + 1) (get_or l at 0) 0 (λ e. omega (arith, e)))
    ∙ stores_2 l to (get_or l at 0) (get_or l (at + 1) 0)
    ∙ ap (sets l to) (sym (words_two i l (omega arith)))

-- ---- an entry's words

entry_words : (ws : List ℕ) (o k : ℕ) (u : Value) → cell_in ws ≡ entry o k u
    → (eqb (get_or ws 2 0 % 4) 0 ≡ false) × (eqb (get_or ws 2 0 % 4) 1 ≡ false) × (get_or ws 2 0 / 4 ≡ o) × (get_or ws 3 0 ≡ k)
unfolding cell_in
entry_words ws o k u e = go (eqb (get_or ws 2 0 % 4) 0) (eqb (get_or ws 2 0 % 4) 1) e
  where
    go : (b₀ b₁ : Bool) → cond b₀ (head_cell (get_or ws 0 0)) (cond b₁ (item (get_or ws 2 0 / 4) (slot_in ws)) (entry (get_or ws 2 0 / 4) (get_or ws 3 0) (slot_in ws))) ≡ entry o k u
        → (b₀ ≡ false) × (b₁ ≡ false) × (get_or ws 2 0 / 4 ≡ o) × (get_or ws 3 0 ≡ k)
    go true b₁ q = let z : ◌≡◌ {A = ℕ} 0 1 = cc in absurd (omega arith)
    go false true q = let z : ◌≡◌ {A = ℕ} 0 1 = cc in absurd (omega arith)
    go false false q = (refl, refl, cc, cc)

-- a cell of two words for the value, and then those of an entry
entry_of : (vs ws : List ℕ) (o k : ℕ) → length vs ≡ 2 → (eqb (get_or ws 0 0 % 4) 0 ≡ false) → (eqb (get_or ws 0 0 % 4) 1 ≡ false) → get_or ws 0 0 / 4 ≡ o → get_or ws 1 0 ≡ k
    → cell_in (vs ++ ws) ≡ entry o k (pending_in vs)
unfolding cell_in pending_in
entry_of vs ws o k two no-head no_item owner key =
    let first : get_or (vs ++ ws) 0 0 ≡ get_or vs 0 0 = get_or-append vs ws 0 0 (omega arith) in
    let second : get_or (vs ++ ws) 1 0 ≡ get_or vs 1 0 = get_or-append vs ws 0 1 (omega arith) in
    let third : get_or (vs ++ ws) 2 0 ≡ get_or ws 0 0 = ap (λ (n : ℕ). get_or (vs ++ ws) n 0) (omega arith) ∙ get_or-append-add vs ws 0 0 in
    let fourth : get_or (vs ++ ws) 3 0 ≡ get_or ws 1 0 = ap (λ (n : ℕ). get_or (vs ++ ws) n 0) (omega arith) ∙ get_or-append-add vs ws 1 0 in
    rw (third, fourth, no-head, no_item, owner, key, first, second)

module _ (head end : ℕ) (words : List ℕ) (es : List (ℕ × Value)) (stand : cells_in end words ≡ cells_in (head + 1) words ++ entries_of head es) where
  count : end ≡ head + 1 + length es
  unfolding cells_in
  count =
      let long = simp length-append at (ap length stand) in
      omega (arith, long, length-view cell_in 1792 4 end words, length-view cell_in 1792 4 (head + 1) words, length-map es (λ (e : ℕ × Value). entry head e.0 e.1))

  cell_is : (j : ℕ) → j < length es → cell_in (rec_at 1792 4 (head + 1 + j) words) ≡ entry head (get_or es j nothing).0 (get_or es j nothing).1
  unfolding cells_in
  cell_is j below =
      let z = entry head 0 VUnit in
      sym (view_get cell_in 1792 4 end (head + 1 + j) words z (omega (arith, count)))
      ∙ ap (λ (cs : List Cell). get_or cs (head + 1 + j) z) stand
      ∙ ap (λ (n : ℕ). get_or (cells_in (head + 1) words ++ entries_of head es) (n + j) z) (sym (length-view cell_in 1792 4 (head + 1) words))
      ∙ get_or-append-add (cells_in (head + 1) words) (entries_of head es) j z
      ∙ get_or-map (λ (e : ℕ × Value). entry head e.0 e.1) es j nothing

  keys_are : drop (head + 1) (keys_in end words) ≡ keys_of es
  unfolding keys_in
  keys_are =
      let long = length-drop (head + 1) (keys_in end words) in
      let all = length-view key_in 1792 4 end words in
      let keys = length-map es (λ (e : ℕ × Value). e.0) in
      ext_get_or 0 (drop (head + 1) (keys_in end words)) (keys_of es) (omega (arith, count))
      (λ j below.
      get_or-drop (head + 1) (keys_in end words) j 0
      ∙ view_get key_in 1792 4 end (head + 1 + j) words 0 (omega (arith, count))
      ∙ (entry_words (rec_at 1792 4 (head + 1 + j) words) head (get_or es j nothing).0 (get_or es j nothing).1 (cell_is j (omega (arith, count)))).3
      ∙ sym (get_or-map (λ (e : ℕ × Value). e.0) es j nothing))

-- ---- an entry is put

module _ (image : List ℕ) (h : Header) (key head end at : ℕ) (words : List ℕ) (above : head < end) (below : at < 512) (long : 8192 ≤ length words) where
  abbrev two : List ℕ
  two = rec_at 768 2 at words

  abbrev after : List (ℕ × Value) → List (ℕ × Value)
  after es = entered image h es key (pending_in two)

  abbrev Stand : List (ℕ × Value) → Type 0
  Stand es = cells_in end words ≡ cells_in (head + 1) words ++ entries_of head es

  length_two : length two ≡ 2
  unfolding rec_at
  length_two = length-take-le 2 (drop (768 + 2 * at) words) (omega (arith, length-drop (768 + 2 * at) words))

  -- whatever is stored past the head
  past_head : (r : Option ℕ) (to : ℕ) (vs : List ℕ) → 1792 + 4 * (head + 1) ≤ to
      → ((es : List (ℕ × Value)) → Stand es → r ≡ object_end (head + 1 + length (after es)))
      → ((es : List (ℕ × Value)) → Stand es → (n : ℕ) → r ≡ Some n → cells_in n (sets words to vs) ≡ cells_in (head + 1) words ++ entries_of head (after es))
      → EntryPut image h head end key at r words (sets words to vs)
  unfolding cells_in
  past_head r to vs past ends entries =
      record {
        long = length-sets words to vs;
        bindings = λ n most. bindings_apart words vs to n most (omega arith);
        pendings = λ n most. pendings_apart words vs to n most (inr (omega arith));
        before = view_apart cell_in 1792 4 (head + 1) words vs to (inr past);
        ends = ends;
        entries = entries;
      }

  -- the object ends at n
  ends_at : (n : ℕ) → n ≤ 1024 → ((es : List (ℕ × Value)) → Stand es → n ≡ head + 1 + length (after es))
      → (es : List (ℕ × Value)) → Stand es → Some n ≡ object_end (head + 1 + length (after es))
  ends_at n most at_end es stand = ap (λ (b : Bool). cond b (Some n) None) (sym (le-leb n 1024 most)) ∙ ap object_end (at_end es stand)

  only : (P : ℕ → Type 0) (n : ℕ) → P n → (k : ℕ) → ◌≡◌ {A = Option ℕ} (Some n) (Some k) → P k
  only P n p k e = let same : n ≡ k = cc in subst P same p

  module _ (i : ℕ) (last : end ≤ 1024) (found : key_from image h key end words (head + 1) ≡ some i) where
    abbrev j : ℕ
    j = i - (head + 1)

    number : i ≡ head + 1 + j
    number = let within = found_within image h key head end i words found in omega arith

    replaced : (es : List (ℕ × Value)) → Stand es → after es ≡ set es j ((get_or es j nothing).0, pending_in two)
    replaced es stand =
        entered_known image h key (pending_in two) es (head + 1) j
        (ap (key_at image h key (head + 1)) (sym (keys_are head end words es stand)) ∙ found ∙ ap some number)

    replaced_cell : (es : List (ℕ × Value)) → Stand es → cell_in (two ++ drop (length two) (rec_at 1792 4 i words)) ≡ entry head (get_or es j nothing).0 (pending_in two)
    replaced_cell es stand =
        let within = found_within image h key head end i words found in
        let ws = rec_at 1792 4 i words in
        let old = ap (λ (n : ℕ). cell_in (rec_at 1792 4 n words)) number ∙ cell_is head end words es stand j (omega (arith, count head end words es stand)) in
        let was = entry_words ws head (get_or es j nothing).0 (get_or es j nothing).1 old in
        let third : get_or (drop (length two) ws) 0 0 ≡ get_or ws 2 0 = get_or-drop (length two) ws 0 0 ∙ ap (λ (n : ℕ). get_or ws n 0) (omega (arith, length_two)) in
        let fourth : get_or (drop (length two) ws) 1 0 ≡ get_or ws 3 0 = get_or-drop (length two) ws 1 0 ∙ ap (λ (n : ℕ). get_or ws n 0) (omega (arith, length_two)) in
        entry_of two (drop (length two) ws) head (get_or es j nothing).0 length_two (rw third was.0) (rw third was.1) (rw third was.2) (fourth ∙ was.3)

    pub put_known : EntryPut image h head end key at (Some end) words (sets words (1792 + 4 * i) two)
    unfolding cells_in
    put_known =
        let within = found_within image h key head end i words found in
        past_head (Some end) (1792 + 4 * i) two (omega arith)
        (ends_at end last
        (λ es stand. count head end words es stand ∙ ap (λ (n : ℕ). head + 1 + n) (sym (ap length (replaced es stand) ∙ length-set es j ((get_or es j nothing).0, pending_in two)))))
        (λ es stand.
        only (λ n. cells_in n (sets words (1792 + 4 * i) two) ≡ cells_in (head + 1) words ++ entries_of head (after es)) end
        (view_set cell_in 1792 4 end i words two within.1 (omega (arith, length_two)) (omega arith)
        ∙ ap₂ (λ (cs : List Cell) (c : Cell). set cs i c) stand (replaced_cell es stand)
        ∙ set-append_right (cells_in (head + 1) words) (entries_of head es) (head + 1) i (entry head (get_or es j nothing).0 (pending_in two)) (length-view cell_in 1792 4 (head + 1) words) (omega arith)
        ∙ ap (λ (cs : List Cell). cells_in (head + 1) words ++ cs)
        (sym (ap (entries_of head) (replaced es stand) ∙ map-set (λ (e : ℕ × Value). entry head e.0 e.1) es j ((get_or es j nothing).0, pending_in two)))))

  module _ (missing : key_from image h key end words (head + 1) ≡ none) where
    appended : (es : List (ℕ × Value)) → Stand es → after es ≡ es ++ ((key, pending_in two) ∷ [])
    appended es stand =
        entered_new image h key (pending_in two) es (head + 1) (ap (key_at image h key (head + 1)) (sym (keys_are head end words es stand)) ∙ missing)

    one_more : (es : List (ℕ × Value)) → Stand es → end + 1 ≡ head + 1 + length (after es)
    one_more es stand =
        let more = ap length (appended es stand) ∙ length-append es ((key, pending_in two) ∷ []) in omega (arith, count head end words es stand)

    pub put_full : 1024 ≤ end → EntryPut image h head end key at None words words
    put_full full =
        past_head None (1792 + 4 * (head + 1)) [] (omega arith)
        (λ es stand. ap (λ (b : Bool). cond b (Some (end + 1)) None) (sym (lt-leb (end + 1) 1024 (omega arith))) ∙ ap object_end (one_more es stand))
        (λ es stand n e. cc)

    pub put_new : end < 1024
        → EntryPut image h head end key at (Some (end + 1)) words (set (set (sets words (1792 + 4 * end) two) (1792 + 4 * end + 2) (4 * head + 2)) (1792 + 4 * end + 3) key)
    unfolding cells_in
    put_new room =
        let to = 1792 + 4 * end in
        let own = (4 * head + 2) ∷ key ∷ [] in
        let stored : sets words to (two ++ own) ≡ set (set (sets words to two) (to + 2) (4 * head + 2)) (to + 3) key =
        rw (words_two at words (omega arith))
        (sym (ap₂ (λ (j k : ℕ). set (set (sets words to (get_or words (768 + 2 * at) 0 ∷ get_or words (768 + 2 * at + 1) 0 ∷ [])) j (4 * head + 2)) k key) (add-two to) (add-three to))) in
        subst (EntryPut image h head end key at (Some (end + 1)) words) stored
        (past_head (Some (end + 1)) to (two ++ own) (omega arith) (ends_at (end + 1) (omega arith) one_more)
        (λ es stand.
        only (λ n. cells_in n (sets words to (two ++ own)) ≡ cells_in (head + 1) words ++ entries_of head (after es)) (end + 1)
        (view_push cell_in 1792 4 end words (two ++ own) (length-append two own ∙ ap (λ (n : ℕ). n + 2) length_two) (omega arith)
        ∙ ap₂ (λ (cs : List Cell) (c : Cell). cs ++ (c ∷ [])) stand (entry_of two own head key length_two (ne_eqb ((4 * head + 2) % 4) 0 (λ e. omega (arith, e))) (ne_eqb ((4 * head + 2) % 4) 1 (λ e. omega (arith, e))) (omega arith) refl)
        ∙ append_assoc (cells_in (head + 1) words) (entries_of head es) (entry head key (pending_in two) ∷ [])
        ∙ ap (λ (cs : List Cell). cells_in (head + 1) words ++ cs)
        (sym (ap (entries_of head) (appended es stand) ∙ map-append (λ (e : ℕ × Value). entry head e.0 e.1) es ((key, pending_in two) ∷ []))))))
