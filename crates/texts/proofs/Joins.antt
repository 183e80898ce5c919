-- The laws of joined text: the store after two puts. Assumes nothing.
use mathlib.Core.Path.{◌≡◌, sym, ap, ap₂, ◌∙◌}
use mathlib.Core.Bool.{cond}
use mathlib.Core.List.{List, ◌++◌, append_assoc}
use Prim.Native.Nat.{ℕ, ◌+◌, ◌-◌, ◌≤◌, ◌<◌}
use native.Mathlib.Omega.{arith}
use borrow.Author.Tests.{le-leb, lt-leb}
use lib.Dec.{leb}
use lib.ListN.{length, take, length-append}
use lib.Seq.{length-take-le}
use Rattle.packed.specs.declared.layout.Header.{Header}
use Rattle.std.specs.Prelude.{Some, None, Result, Ok, Err}
use Rattle.numbers.specs.Decimal.{put_of, end_of}
use Rattle.numbers.proofs.DecimalLaws.{ended, not_ended, take_put, length-put, take_put_end}
use Rattle.rules.specs.declared.Value.TheVariants.{Text}
use Rattle.rules.specs.declared.Refusal.TheVariants.{TextBytes}
use Rattle.rules.specs.declared.Value.{Value}
use Rattle.rules.specs.declared.Refused.{Refused}
use Rattle.rules.specs.Store.{with_text, text_of as text_in}
use Rattle.rules.specs.Building.{gives, refuses, built_text}
use Rattle.rules.specs.Targets.{refusing}
use Rattle.texts.specs.Text.{pool_text, joined}
use Rattle.stores.specs.Stores.{text_of, store_of, MakesText}
use Rattle.stores.proofs.Numbers.{text_set, kept_text}
use Rattle.stores.proofs.Chains.{kept_bytes, kept_then}
use Rattle.stores.specs.declared.run.Run.{Run}
use Rattle.stores.specs.Run.{set_text}

-- ---- the store after two puts

store_kept : (run : Run) (words bytes bytes' : List ℕ) → take (text_of run) bytes' ≡ take (text_of run) bytes → store_of run words bytes' ≡ store_of run words bytes
unfolding store_of
store_kept run words bytes bytes' e = rw e

text_taken : (run : Run) (words bytes bytes' : List ℕ) (end : ℕ)
    → store_of (set_text run end) words bytes' ≡ with_text (take end bytes') (store_of run words bytes)
unfolding store_of
text_taken run words bytes bytes' end = text_set run words bytes' end

module _ (image : List ℕ) (h : Header) (n start len start' len' : ℕ) (run : Run) (bytes : List ℕ) where
  abbrev made : ℕ
  made = text_of run

  abbrev one : List ℕ
  one = pool_text image h made bytes start len

  abbrev two : List ℕ
  two = pool_text image h made bytes start' len'

  abbrev Joins : Result Value Refused → Run → List ℕ → Type 0
  Joins r run' bytes' = MakesText r (joined image h n start len start' len') run bytes run' bytes'

  module _ (full : length bytes ≡ 16384) (fits : made ≤ 16384) where
    joined_is : (words : List ℕ)
        → joined image h n start len start' len' (store_of run words bytes)
        ≡ cond (leb (made + length (one ++ two)) 16384)
        (gives (Text (h.text + made) (length (one ++ two))) (with_text (take made bytes ++ (one ++ two)) (store_of run words bytes)))
        (refuses TextBytes n)
    unfolding store_of built_text text_in pool_text
    joined_is words = rw (length-take-le (text_of run) bytes (omega arith))

    refused : (bytes' : List ℕ) → 16384 < made + length (one ++ two) → take made bytes' ≡ take made bytes → length bytes' ≡ length bytes
        → Joins (Err (refusing TextBytes n)) run bytes'
    refused bytes' over same long words f =
        record {
          did = joined_is words ∙ rw (lt-leb (made + length (one ++ two)) 16384 over);
          undone = λ why e. store_kept run words bytes bytes' same;
          kept = kept_bytes f long;
        }

    given : (bytes' : List ℕ) (end : ℕ) → end ≡ made + length (one ++ two) → end ≤ 16384
        → take end bytes' ≡ take made bytes ++ (one ++ two) → length bytes' ≡ length bytes
        → Joins (Ok (Text (h.text + made) (end - made))) (set_text run end) bytes'
    given bytes' end e within same long words f =
        let count : length (one ++ two) ≡ end - made = omega arith in
        record {
          did =
              joined_is words
              ∙ rw (le-leb (made + length (one ++ two)) 16384 (omega arith), count, ← same)
              (ap (gives (Text (h.text + made) (end - made))) (sym (text_taken run words bytes bytes' end)));
          undone = λ why q. let z : ◌≡◌ {A = ℕ} 0 1 = cc in absurd (omega arith);
          kept = kept_then (kept_bytes f long) (kept_text run words end bytes' f within);
        }

    module _ (bytes₁ : List ℕ) (put₁ : bytes₁ ≡ put_of bytes made one) where
      same₁ : take made bytes₁ ≡ take made bytes
      same₁ = ap (take made) put₁ ∙ take_put bytes made one made (omega arith)

      long₁ : length bytes₁ ≡ length bytes
      long₁ = ap length put₁ ∙ length-put bytes made one

      pub join_none : None ≡ end_of bytes made one → Joins (Err (refusing TextBytes n)) run bytes₁
      join_none e = refused bytes₁ (omega (arith, not_ended bytes made one e, length-append one two)) same₁ long₁

      abbrev next : List ℕ
      next = pool_text image h made bytes₁ start' len'

      next_is : next ≡ two
      unfolding pool_text
      next_is = rw same₁

      module _ (at : ℕ) (end₁ : Some at ≡ end_of bytes made one) (bytes₂ : List ℕ) (put₂ : bytes₂ ≡ put_of bytes₁ at next) where
        place : (at ≡ made + length one) × (at ≤ length bytes)
        place = ended bytes made one end₁

        long₂ : length bytes₂ ≡ length bytes
        long₂ = ap length put₂ ∙ length-put bytes₁ at next ∙ long₁

        pub join_not : None ≡ end_of bytes₁ at next → Joins (Err (refusing TextBytes n)) run bytes₂
        join_not e =
            refused bytes₂
            (omega (arith, not_ended bytes₁ at next e, length-append one two, place, long₁, ap length next_is))
            (ap (take made) put₂ ∙ take_put bytes₁ at next made (omega (arith, place)) ∙ same₁)
            long₂

        pub join_all : (end : ℕ) → Some end ≡ end_of bytes₁ at next → Joins (Ok (Text (h.text + made) (end - made))) (set_text run end) bytes₂
        join_all end e =
            let last : (end ≡ at + length next) × (end ≤ length bytes₁) = ended bytes₁ at next e in
            given bytes₂ end
            (omega (arith, length-append one two, place, ap length next_is))
            (omega (arith, long₁))
            (ap₂ take last.0 put₂
            ∙ take_put_end bytes₁ at next (omega arith)
            ∙ ap₂ ◌++◌ (ap₂ take place.0 put₁ ∙ take_put_end bytes made one (omega (arith, place))) next_is
            ∙ append_assoc (take made bytes) one two)
            long₂
