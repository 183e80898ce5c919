-- The laws of pending items. Assumes nothing.
use mathlib.Core.Path.{refl, sym, ap, subst, ◌≡◌, ap₂, ◌∙◌}
use mathlib.Core.Bool.{true, false}
use mathlib.Core.List.{List, [], ◌∷◌, ◌++◌}
use Prim.Native.Nat.{ℕ, ◌+◌, ◌*◌, ◌≤◌, ◌<◌, ◌-◌}
use borrow.Author.Tests.{lt-ltb, le-ltb}
use lib.ListN.{length, get_or, drop, drop_of_length-le}
use Rattle.rules.specs.declared.Value.{Value}
use Rattle.rules.specs.Store.{with_pending, pushed}
use Rattle.slots.specs.Slot.{slot_words, Put, value_of}
use Rattle.stores.specs.Pending.{pushed_if_room}
use Rattle.stores.specs.Stores.{pending_of, pending_in, store_of, Fits, Tried, TriedWords, pendings_in}
use Rattle.stores.proofs.Chains.{refused, made, became_as}
use Rattle.stores.proofs.Counted.{pending_counted, length_part, one_more}
use native.Mathlib.Decide.{dec_lt}
use native.Mathlib.Omega.{arith}
use lib.Seq.{drop-append-le}
use Rattle.stores.specs.View.{rec_at}
use Rattle.stores.specs.declared.run.Run.{Run}
use Rattle.stores.specs.Run.{set_pending}
use Rattle.stores.proofs.Views.{length-view, view_more, rec_word}

pub push_full : (v : Value) (run : Run) (words : List ℕ) → Fits run words → 512 ≤ pending_of run → TriedWords false (pushed_if_room v) run words run words
push_full v run words f full bytes =
    refused (pushed_if_room v) f (rw (length_part pending_counted run words bytes, le-ltb (pending_of run) 512 full))

pub push_made : (v : Value) (run : Run) (words words' : List ℕ) → Fits run words → pending_of run < 512 → Put v (768 + 2 * pending_of run) words words'
    → TriedWords true (pushed_if_room v) run words (set_pending run (pending_of run + 1)) words'
unfolding pending_in
push_made v run words words' f below put bytes =
    subst (λ (w : List ℕ). Tried true (pushed_if_room v) run words bytes (set_pending run (pending_of run + 1)) w bytes) (sym put.stored)
    (made (pushed_if_room v) (pushed v) (rw (length_part pending_counted run words bytes, lt-ltb (pending_of run) 512 below))
    (became_as _ (pushed v) (ap (λ (u : Value). with_pending ((store_of run words bytes).pending ++ (u ∷ [])) (store_of run words bytes)) put.back)
    (one_more pending_counted run words (768 + 2 * pending_of run) (slot_words v) f refl refl below bytes)))

-- ---- pending items from some on

module _ (from n : ℕ) (words : List ℕ) where
  pub pendings_none : n ≤ from → drop from (pendings_in n words) ≡ []
  unfolding pendings_in
  pendings_none h = drop_of_length-le (pendings_in n words) (subst (λ (k : ℕ). k ≤ from) (sym (length-view pending_in 768 2 n words)) h)

  pub pendings_more : from ≤ n → drop from (pendings_in (n + 1) words) ≡ drop from (pendings_in n words) ++ (value_of (get_or words (769 + 2 * n) 0) (get_or words (768 + 2 * n) 0) ∷ [])
  unfolding pendings_in pending_in
  pendings_more h =
      ap (drop from) (view_more pending_in 768 2 n words)
      ∙ drop-append-le from (pendings_in n words) (pending_in (rec_at 768 2 n words) ∷ []) (omega (arith, length-view pending_in 768 2 n words))
      ∙ ap₂ (λ (y x : ℕ). drop from (pendings_in n words) ++ (value_of y x ∷ []))
      (rec_word 768 2 n 1 words (omega arith) ∙ ap (λ (j : ℕ). get_or words j 0) (omega arith))
      (rec_word 768 2 n 0 words (omega arith) ∙ ap (λ (j : ℕ). get_or words j 0) (omega arith))

-- so many as there are from `from` on
pub pendings_since : (from n : ℕ) (words : List ℕ) → drop from (pendings_in (from + (n - from)) words) ≡ drop from (pendings_in n words)
pendings_since from n words = go (dec_lt n from)
  where
    go : Dec (n < from) → drop from (pendings_in (from + (n - from)) words) ≡ drop from (pendings_in n words)
    go (yes fewer) = pendings_none from (from + (n - from)) words (omega arith) ∙ sym (pendings_none from n words (omega arith))
    go (no enough) = ap (λ (k : ℕ). drop from (pendings_in k words)) (omega arith)

pub length-pending : (run : Run) (words bytes : List ℕ) → length (store_of run words bytes).pending ≡ pending_of run
length-pending run words bytes = length_part pending_counted run words bytes
