-- The laws of bindings and scopes. Assumes nothing.
use mathlib.Core.Path.{◌≡◌, refl, sym, ap, ap₂, ◌∙◌, subst}
use mathlib.Core.Bool.{Bool, true, false, cond}
use mathlib.Core.Logic.{◌⊎◌, inl, inr, ⊎_elim}
use mathlib.Core.List.{List, [], ◌∷◌, ◌++◌, append-nil, append_assoc}
use mathlib.Core.Option.{Option, some, none}
use Prim.Native.Nat.{ℕ, suc, ◌+◌, ◌-◌, ◌*◌, ◌≤◌, ◌<◌}
use native.Mathlib.Nat.{add-zero, add-suc, suc-add}
use native.Mathlib.Numerals.{add-two}
use native.Mathlib.Omega.{arith}
use borrow.Author.Tests.{lt-ltb, le-ltb, eq-eqb, ne_eqb}
use lib.Dec.{eqb}
use lib.ListN.{length, get_or, set, drop, length-drop, drop_of_length-le, get_or-eq_default}
use lib.Seq.{sets, length-sets, drop-append-le, get_or-drop, set_out}
use Rattle.rules.specs.declared.Value.{Value}
use Rattle.rules.specs.declared.Value.TheVariants.{Unit as VUnit}
use Rattle.rules.specs.Store.{Binding, or_else, last_of, unbound, rebound, declared, arguments, opened, with_scope, with_floor, with_bindings}
use Rattle.stores.specs.View.{rec_at, view}
use Rattle.slots.specs.Slot.{value_of, slot_of, slot_words, Put}
use Rattle.std.specs.Prelude.{Some, None}
use Rattle.bindings.specs.Scopes.{BoundAt, arguments_bound, Copied}
use Rattle.stores.specs.Finding.{found_of}
use Rattle.stores.specs.Stores.{bound_of, scope_of, pending_of, cells_of, slot_in, binding_in, pending_in, bindings_in, pendings_in, store_of, Fits, Became, Tried, BecameRun, BecameWords, TriedWords}
use Rattle.slots.proofs.Rows.{stores_3}
use Rattle.stores.proofs.Views.{view_more, view_get, view_push, length-view, rec_word}
use Rattle.stores.proofs.Regions.{pendings_apart, cells_apart}
use Rattle.stores.proofs.PendingLaws.{pendings_since}
use Rattle.stores.proofs.FoundLaws.{found_some, found_none}
use Rattle.stores.proofs.Chains.{kept_same, refused, made, became_as, became_then, run_then, became_scope, became_floor}
use Rattle.stores.proofs.Counted.{bindings_counted, pending_counted, length_part, recounted, one_anew, one_more}
use Rattle.stores.specs.declared.run.Run.{Run}
use Rattle.stores.specs.Run.{set_bound, set_floor, set_scope}

pub became_opened : (run : Run) → BecameRun opened run (set_scope run (bound_of run))
became_opened run words bytes f =
    became_as (with_scope (bound_of run)) opened
    (ap (λ (n : ℕ). with_scope n (store_of run words bytes)) (sym (length_part bindings_counted run words bytes)))
    (became_scope (bound_of run) run words bytes f)

-- ---- the last binding of a name

or_none : {A : Type 0} (o : Option A) → or_else o none ≡ o
or_none (some a) = refl
or_none none = refl

or_assoc : {A : Type 0} (o p q : Option A) → or_else (or_else o p) q ≡ or_else o (or_else p q)
or_assoc (some a) p q = refl
or_assoc none p q = refl

-- number i, if the test holds
abbrev numbered : Bool → ℕ → Option ℕ
numbered t i = cond t (some i) none

last_snoc : (name i : ℕ) (bs : List Binding) (b : Binding)
    → last_of name i (bs ++ (b ∷ [])) ≡ or_else (numbered (eqb b.name name) (i + length bs)) (last_of name i bs)
unfolding last_of
last_snoc name i [] b = sym (or_none (numbered (eqb b.name name) (i + 0)) ∙ ap (numbered (eqb b.name name)) (add-zero i))
last_snoc name i (x ∷ bs) b =
    ap (λ (o : Option ℕ). or_else o (numbered (eqb x.name name) i)) (last_snoc name (suc i) bs b)
    ∙ or_assoc (numbered (eqb b.name name) (suc i + length bs)) (last_of name (suc i) bs) (numbered (eqb x.name name) i)
    ∙ ap (λ (k : ℕ). or_else (numbered (eqb b.name name) k) (or_else (last_of name (suc i) bs) (numbered (eqb x.name name) i)))
    (suc-add i (length bs) ∙ sym (add-suc i (length bs)))

name_at : (i : ℕ) (words : List ℕ) → (binding_in (rec_at 0 3 i words)).name ≡ get_or words (3 * i + 2) 0
unfolding binding_in
name_at i words = rec_word 0 3 i 2 words (omega arith) ∙ ap (λ (k : ℕ). get_or words k 0) (omega arith)

-- among the first i + 1 bindings it is number i, if that has the name, or among the first i
last_step : (name from i : ℕ) (words : List ℕ) → from ≤ i
    → last_of name from (drop from (bindings_in (i + 1) words))
    ≡ or_else (numbered (eqb (get_or words (3 * i + 2) 0) name) i) (last_of name from (drop from (bindings_in i words)))
unfolding bindings_in
last_step name from i words h =
    let bs : List Binding = view binding_in 0 3 i words in
    let b : Binding = binding_in (rec_at 0 3 i words) in
    let l : length bs ≡ i = length-view binding_in 0 3 i words in
    let d : from + length (drop from bs) ≡ i = omega (arith, length-drop from bs) in
    ap (λ (rs : List Binding). last_of name from (drop from rs)) (view_more binding_in 0 3 i words)
    ∙ ap (last_of name from) (drop-append-le from bs (b ∷ []) (omega arith))
    ∙ last_snoc name from (drop from bs) b
    ∙ ap₂ (λ (w k : ℕ). or_else (numbered (eqb w name) k) (last_of name from (drop from bs))) (name_at i words) d

last_none : (name from i : ℕ) (words : List ℕ) → i ≤ from → last_of name from (drop from (bindings_in i words)) ≡ none
unfolding bindings_in last_of
last_none name from i words h =
    ap (last_of name from) (drop_of_length-le (view binding_in 0 3 i words) {i = from} (omega (arith, length-view binding_in 0 3 i words)))

-- the last up to number `to` is the last up to number i
abbrev pub Among : List ℕ → ℕ → ℕ → ℕ → ℕ → Type 0
Among words name from to i = last_of name from (drop from (bindings_in to words)) ≡ last_of name from (drop from (bindings_in i words))

module _ (words : List ℕ) (name from to i : ℕ) (h : from < i) (sofar : Among words name from to i) where
  before : (t : Bool) → eqb (get_or words (3 * (i - 1) + 2) 0) name ≡ t
      → last_of name from (drop from (bindings_in to words)) ≡ or_else (numbered t (i - 1)) (last_of name from (drop from (bindings_in (i - 1) words)))
  before t e =
      let next : i ≡ i - 1 + 1 = omega arith in
      sofar
      ∙ ap (λ (k : ℕ). last_of name from (drop from (bindings_in k words))) next
      ∙ last_step name from (i - 1) words (omega arith)
      ∙ ap (λ (t : Bool). or_else (numbered t (i - 1)) (last_of name from (drop from (bindings_in (i - 1) words)))) e

  pub last_found : get_or words (3 * (i - 1) + 2) 0 ≡ name → Some (i - 1) ≡ found_of (last_of name from (drop from (bindings_in to words)))
  last_found e = sym (ap found_of (before true (eq-eqb _ _ e)))

  pub last_passed : (get_or words (3 * (i - 1) + 2) 0 ≡ name → ⊥) → Among words name from to (i - 1)
  last_passed ne = before false (ne_eqb _ _ ne)

pub last_nowhere : (words : List ℕ) (name from to i : ℕ) → i ≤ from → Among words name from to i → None ≡ found_of (last_of name from (drop from (bindings_in to words)))
last_nowhere words name from to i h sofar = sym (ap found_of (sofar ∙ last_none name from i words h))

-- ---- the value of a binding

-- the value of record i, from its first two words
slot_at : (base stride i : ℕ) (words : List ℕ) → 1 < stride
    → slot_in (rec_at base stride i words) ≡ value_of (get_or words (base + stride * i + 1) 0) (get_or words (base + stride * i) 0)
slot_at base stride i words h =
    ap₂ value_of (rec_word base stride i 1 words h)
    (rec_word base stride i 0 words (omega arith) ∙ ap (λ (k : ℕ). get_or words k 0) (add-zero (base + stride * i)))

pub bound_some : (run : Run) (words : List ℕ) (i : ℕ) (v : Value) → i < bound_of run → v ≡ value_of (get_or words (3 * i + 1) 0) (get_or words (3 * i) 0) → BoundAt v run words i
unfolding binding_in bindings_in store_of
bound_some run words i v h e =
    let place : 3 * i ≡ 0 + 3 * i = omega arith in
    record {
      is =
          λ bytes.
          e
          ∙ ap (λ (k : ℕ). value_of (get_or words (k + 1) 0) (get_or words k 0)) place
          ∙ sym (slot_at 0 3 i words (omega arith))
          ∙ sym (ap (λ (b : Binding). b.value) (view_get binding_in 0 3 (bound_of run) i words unbound h));
    }

pub bound_none : (run : Run) (words : List ℕ) (i : ℕ) → bound_of run ≤ i → BoundAt unbound.value run words i
bound_none run words i h =
    record {
      is =
          λ bytes.
          sym (ap (λ (b : Binding). b.value) (get_or-eq_default (store_of run words bytes).bindings unbound (omega (arith, length_part bindings_counted run words bytes))));
    }

-- ---- another value for a binding

-- the words of binding i with another value: its name is kept
renewed : (run : Run) (words bytes : List ℕ) (i : ℕ) (v : Value) → i < bound_of run → value_of (slot_of v).kind (slot_of v).payload ≡ v
    → binding_in (slot_words v ++ drop 2 (rec_at 0 3 i words)) ≡ record { name = (get_or (store_of run words bytes).bindings i unbound).name; value = v }
unfolding binding_in bindings_in store_of
renewed run words bytes i v h back =
    ap₂ (λ (n : ℕ) (u : Value). record { name = n; value = u })
    (get_or-drop 2 (rec_at 0 3 i words) 0 0 ∙ sym (ap (λ (b : Binding). b.name) (view_get binding_in 0 3 (bound_of run) i words unbound h)))
    back

pub rebind_some : (v : Value) (run : Run) (words words' : List ℕ) (i : ℕ) → Fits run words → i < bound_of run → Put v (3 * i) words words'
    → BecameWords (λ σ. rebound σ i v) run words run words'
rebind_some v run words words' i f h put bytes =
    subst (λ (w : List ℕ). Became (λ σ. rebound σ i v) run words bytes run w bytes) (sym put.stored)
    (became_as _ (λ σ. rebound σ i v)
    (ap (λ (b : Binding). with_bindings (set (store_of run words bytes).bindings i b) (store_of run words bytes)) (renewed run words bytes i v h put.back))
    (one_anew bindings_counted run words i (3 * i) (slot_words v) f (omega arith) (omega arith) h bytes))

pub rebind_none : (v : Value) (run : Run) (words : List ℕ) (i : ℕ) → Fits run words → bound_of run ≤ i → BecameWords (λ σ. rebound σ i v) run words run words
rebind_none v run words i f h bytes =
    record {
      store =
          sym (ap (λ (bs : List Binding). with_bindings bs (store_of run words bytes))
          (set_out (store_of run words bytes).bindings i _ (omega (arith, length_part bindings_counted run words bytes))));
      kept = kept_same f;
    }

-- ---- a name bound in a scope

or_some : {A : Type 0} (o p : Option A) (a : A) → or_else o p ≡ some a → (o ≡ some a) ⊎ (p ≡ some a)
or_some (some b) p a e = inl e
or_some none p a e = inr e

numbered_some : (t : Bool) (i k : ℕ) → numbered t i ≡ some k → i ≡ k
numbered_some true i k e = cc
numbered_some false i k e = cc

last_within : (name i : ℕ) (bs : List Binding) (k : ℕ) → last_of name i bs ≡ some k → (i ≤ k) × (k < i + length bs)
unfolding last_of
last_within name i [] k e = absurd (let z : ◌≡◌ {A = ℕ} 0 1 = cc in omega arith)
last_within name i (b ∷ bs) k e =
    ⊎_elim
    (λ q. let r = last_within name (suc i) bs k q in (omega arith, omega arith))
    (λ q. let r = numbered_some (eqb b.name name) i k q in (omega arith, omega arith))
    (or_some (last_of name (suc i) bs) (numbered (eqb b.name name) i) k e)

pub found_below : (name from to : ℕ) (words : List ℕ) (i : ℕ) → Some i ≡ found_of (last_of name from (drop from (bindings_in to words))) → i < to
unfolding bindings_in
found_below name from to words i found =
    let bs = view binding_in 0 3 to words in
    let w = last_within name from (drop from bs) i (found_some (last_of name from (drop from bs)) i found) in
    omega (arith, w.0, w.1, length-drop from bs, length-view binding_in 0 3 to words)

-- the last binding of a name in the innermost scope
abbrev in_scope : ℕ → Run → List ℕ → Option ℕ
in_scope name run words = last_of name (scope_of run) (drop (scope_of run) (bindings_in (bound_of run) words))

module _ (name : ℕ) (run : Run) (words : List ℕ) (v : Value) (f : Fits run words) where
  pub declare_again : (i : ℕ) (words' : List ℕ) → Some i ≡ found_of (in_scope name run words) → Put v (3 * i) words words'
      → TriedWords true (λ σ. declared σ name v) run words run words'
  unfolding store_of declared
  declare_again i words' found put bytes =
      made (λ σ. declared σ name v) (λ σ. rebound σ i v) (rw (found_some (in_scope name run words) i found))
      (rebind_some v run words words' i f (found_below name (scope_of run) (bound_of run) words i found) put bytes)

  module _ (nowhere : None ≡ found_of (in_scope name run words)) where
    pub declare_full : 256 ≤ bound_of run → TriedWords false (λ σ. declared σ name v) run words run words
    unfolding store_of declared
    declare_full full bytes =
        refused (λ σ. declared σ name v) f
        (rw (found_none (in_scope name run words) nowhere, length_part bindings_counted run words bytes, le-ltb (bound_of run) 256 full))

    pub declare_new : (words' : List ℕ) → bound_of run < 256 → Put v (3 * bound_of run) words words'
        → TriedWords true (λ σ. declared σ name v) run words (set_bound run (bound_of run + 1)) (set words' (3 * bound_of run + 2) name)
    unfolding store_of declared binding_in
    declare_new words' room put bytes =
        let n = bound_of run in
        let σ = store_of run words bytes in
        let ws = (slot_of v).payload ∷ (slot_of v).kind ∷ name ∷ [] in
        let stored : set words' (3 * n + 2) name ≡ sets words (3 * n) ws = ap₂ (λ (l : List ℕ) (k : ℕ). set l k name) put.stored (add-two (3 * n)) in
        subst (λ (w : List ℕ). Tried true (λ τ. declared τ name v) run words bytes (set_bound run (n + 1)) w bytes) (sym stored)
        (made (λ τ. declared τ name v) (λ τ. with_bindings (τ.bindings ++ (record { name = name; value = v } ∷ [])) τ)
        (rw (found_none (in_scope name run words) nowhere, length_part bindings_counted run words bytes, lt-ltb n 256 room))
        (became_as _ _ (ap (λ (u : Value). with_bindings (σ.bindings ++ (record { name = name; value = u } ∷ [])) σ) put.back)
        (one_more bindings_counted run words (3 * n) ws f (omega arith) refl room bytes)))

-- ---- a call's arguments

arguments_snoc : (first : ℕ) (vs : List Value) (v : Value) → arguments first (vs ++ (v ∷ [])) ≡ arguments first vs ++ (record { name = first + length vs; value = v } ∷ [])
arguments_snoc first [] v = ap (λ (n : ℕ). record { name = n; value = v } ∷ []) (sym (add-zero first))
arguments_snoc first (u ∷ vs) v =
    ap (λ (bs : List Binding). record { name = first; value = u } ∷ bs)
    (arguments_snoc (suc first) vs v
    ∙ ap (λ (n : ℕ). arguments (suc first) vs ++ (record { name = n; value = v } ∷ [])) (suc-add first (length vs) ∙ sym (add-suc first (length vs))))

pub copied_none : (bound first from : ℕ) (words : List ℕ) → Copied bound first from 0 words words
unfolding pendings_in
copied_none bound first from words =
    record {
      long = refl;
      bindings =
          ap (λ (n : ℕ). bindings_in n words) (add-zero bound)
          ∙ sym (append-nil (bindings_in bound words))
          ∙ ap (λ (vs : List Value). bindings_in bound words ++ arguments first vs)
          (sym (drop_of_length-le (view pending_in 768 2 (from + 0) words) {i = from} (omega (arith, length-view pending_in 768 2 (from + 0) words))));
      pendings = λ n h. refl;
      cells = λ n. refl;
    }

-- one argument more
arguments_more : (first from i : ℕ) (words : List ℕ)
    → arguments first (drop from (pendings_in (from + (i + 1)) words))
    ≡ arguments first (drop from (pendings_in (from + i) words)) ++ (record { name = first + i; value = pending_in (rec_at 768 2 (from + i) words) } ∷ [])
unfolding pendings_in
arguments_more first from i words =
    let vs = view pending_in 768 2 (from + i) words in
    let v = pending_in (rec_at 768 2 (from + i) words) in
    let l : length vs ≡ from + i = length-view pending_in 768 2 (from + i) words in
    let next : from + (i + 1) ≡ from + i + 1 = omega arith in
    let passed : length (drop from vs) ≡ i = omega (arith, length-drop from vs) in
    ap (λ (k : ℕ). arguments first (drop from (view pending_in 768 2 k words))) next
    ∙ ap (λ (us : List Value). arguments first (drop from us)) (view_more pending_in 768 2 (from + i) words)
    ∙ ap (arguments first) (drop-append-le from vs (v ∷ []) (omega arith))
    ∙ arguments_snoc first (drop from vs) v
    ∙ ap (λ (n : ℕ). arguments first (drop from vs) ++ (record { name = first + n; value = v } ∷ [])) passed

module _ (bound first from i : ℕ) (words w : List ℕ) (room : bound + i < 256) (more : from + i < 512) (long : 8192 ≤ length words)
    (sofar : Copied bound first from i words w) where
  still_pending : value_of (get_or w (768 + 2 * (from + i) + 1) 0) (get_or w (768 + 2 * (from + i)) 0) ≡ pending_in (rec_at 768 2 (from + i) words)
  unfolding pendings_in pending_in
  still_pending =
      sym (slot_at 768 2 (from + i) w (omega arith))
      ∙ sym (view_get pending_in 768 2 (from + i + 1) (from + i) w VUnit (omega arith))
      ∙ ap (λ (vs : List Value). get_or vs (from + i) VUnit) (sofar.pendings (from + i + 1) (omega arith))
      ∙ view_get pending_in 768 2 (from + i + 1) (from + i) words VUnit (omega arith)

  pub copied_more : Copied bound first from (i + 1) words
      (set (set (set w (3 * (bound + i)) (get_or w (768 + 2 * (from + i)) 0)) (3 * (bound + i) + 1) (get_or w (768 + 2 * (from + i) + 1) 0)) (3 * (bound + i) + 2) (first + i))
  unfolding bindings_in binding_in
  copied_more =
      let to = 3 * (bound + i) in
      let ws = get_or w (768 + 2 * (from + i)) 0 ∷ get_or w (768 + 2 * (from + i) + 1) 0 ∷ (first + i) ∷ [] in
      let next : bound + (i + 1) ≡ bound + i + 1 = omega arith in
      let place : to ≡ 0 + 3 * (bound + i) = omega arith in
      subst (λ (l : List ℕ). Copied bound first from (i + 1) words l) (sym (stores_3 w to _ _ _))
      record {
        long = length-sets w to ws ∙ sofar.long;
        bindings =
            ap₂ (λ (k a : ℕ). bindings_in k (sets w a ws)) next place
            ∙ view_push binding_in 0 3 (bound + i) w ws refl (omega (arith, sofar.long))
            ∙ ap₂ (λ (bs : List Binding) (v : Value). bs ++ (record { name = first + i; value = v } ∷ [])) sofar.bindings still_pending
            ∙ append_assoc (bindings_in bound words) _ _
            ∙ ap (λ (bs : List Binding). bindings_in bound words ++ bs) (sym (arguments_more first from i words));
        pendings = λ n most. pendings_apart w ws to n most (inl (omega arith)) ∙ sofar.pendings n most;
        cells = λ n. cells_apart w ws to n (omega arith) ∙ sofar.cells n;
      }

-- so many that they reach to the last
became_copied : (first from count : ℕ) (run : Run) (words words' bytes : List ℕ) → Fits run words → Copied (bound_of run) first from count words words'
    → Became (with_bindings (bindings_in (bound_of run) words')) run words bytes run words' bytes
unfolding store_of
became_copied first from count run words words' bytes f copied =
    record {
      store = rw (copied.pendings (pending_of run) f.pending, copied.cells (cells_of run));
      kept =
          kept_same
          record {
            words_length = omega (arith, f.words_length, copied.long);
            bindings = f.bindings;
            pending = f.pending;
            cells = f.cells;
            text = f.text;
          };
    }

module _ (first from count : ℕ) (run : Run) (words : List ℕ) (f : Fits run words) (counted : count ≡ pending_of run - from) where
  length_since : (bytes : List ℕ) → length (drop from (store_of run words bytes).pending) ≡ count
  length_since bytes =
      length-drop from (store_of run words bytes).pending ∙ ap (λ (n : ℕ). n - from) (length_part pending_counted run words bytes) ∙ sym counted

  pub arguments_refused : 256 < bound_of run + count → TriedWords false (arguments_bound first from) run words run words
  arguments_refused over bytes =
      refused (arguments_bound first from) f
      (rw (length_part bindings_counted run words bytes, length_since bytes, lt-ltb 256 (bound_of run + count) over))

  pub arguments_made : (words' : List ℕ) → bound_of run + count ≤ 256 → Copied (bound_of run) first from count words words'
      → TriedWords true (arguments_bound first from) run words (set_bound (set_floor (set_scope run (bound_of run)) (bound_of run)) (bound_of run + count)) words'
  unfolding store_of bindings_in
  arguments_made words' room copied bytes =
      let n = bound_of run in
      let σ = store_of run words bytes in
      let now-copied = became_copied first from count run words words' bytes f copied in
      let now-open = run_then (became_scope n run) (became_floor n (set_scope run n)) words' bytes now-copied.kept.fits in
      let now-bound = recounted bindings_counted (set_floor (set_scope run n) n) words' (n + count) now-open.kept.fits room bytes in
      let all : drop from (pendings_in (from + count) words) ≡ drop from (pendings_in (pending_of run) words) =
      ap (λ (k : ℕ). drop from (pendings_in (from + k) words)) counted ∙ pendings_since from (pending_of run) words in
      made (arguments_bound first from) _
      (rw (length_part bindings_counted run words bytes, length_since bytes, le-ltb 256 (n + count) room)
      (ap (λ (bs : List Binding). some (with_bindings bs (with_floor n (with_scope n σ))))
      (sym (copied.bindings ∙ ap (λ (vs : List Value). bindings_in n words ++ arguments first vs) all))))
      (became_then now-copied (became_then now-open now-bound))
