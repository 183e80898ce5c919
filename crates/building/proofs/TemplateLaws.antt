-- The components of a template, put one after the other. Assumes nothing.
use mathlib.Core.Path.{◌≡◌, refl, sym, ap, ap₂, ◌∙◌}
use mathlib.Core.List.{List, [], ◌∷◌, ◌++◌, append-nil, append_assoc}
use Prim.Native.Nat.{ℕ, ◌+◌, ◌≤◌, ◌<◌}
use native.Mathlib.Nat.{le_refl}
use native.Mathlib.Omega.{arith}
use borrow.Author.Tests.{ne_eqb}
use lib.ListN.{length, take, drop, length-append}
use lib.Seq.{sets, length-take-le}
use Rattle.packed.specs.declared.layout.Header.{Header}
use Rattle.packed.specs.Layout.{node_at}
use Rattle.std.specs.Prelude.{Option, Some, None}
use Rattle.numbers.specs.Decimal.{put_of, end_of}
use Rattle.numbers.proofs.DecimalLaws.{room, no_room, ended, not_ended, take_put, length-put, take_put_end}
use Rattle.rules.specs.declared.Value.{Value}
use Rattle.rules.specs.Store.{Store, empty, with_text, literal_text}
use Rattle.rules.specs.Building.{printed, or_nothing, template_text}
use Rattle.rules.specs.Machine.{onward, whole_chain}
use Rattle.stores.specs.View.{rec_at}
use Rattle.stores.specs.Stores.{pending_in, pendings_in}
use Rattle.building.specs.Making.{IsKind, printed_text, components_text, ComponentsPut}
use Rattle.building.proofs.ObjectLaws.{pendings_more}
use Rattle.stores.proofs.PendingLaws.{pendings_none}
use Rattle.building.proofs.ChainLaws.{whole_none, whole_more, onward_within, component_within}

-- ---- the loop

module _ (image : List ℕ) (h : Header) (words : List ℕ) (n from to made : ℕ) (bytes₀ : List ℕ) where
  abbrev before : Store
  before = with_text (take made bytes₀) empty

  -- the text of the components from i on, of the pending items from `at` on
  abbrev left : ℕ → ℕ → List ℕ
  left i at = template_text image h before (whole_chain image h i) (drop at (pendings_in to words))

  abbrev whole : List ℕ
  whole = components_text image h words n from to made bytes₀

  -- the components before i stand after the first `made` bytes, up to end
  pub record Printing (bytes : List ℕ) (end at i : ℕ) : Type 0 where
    pub long : length bytes ≡ length bytes₀
    pub above : made ≤ end
    pub within : end ≤ length bytes₀
    pub kept : take made bytes ≡ take made bytes₀
    pub rest : take end bytes ++ left i at ≡ take made bytes₀ ++ whole
    pub node : i ≤ h.nodes

  -- component i is put at end, if there is room for it, and the next pending item is at'
  pub record Component (bytes : List ℕ) (end at i : ℕ) (put : Option ℕ) (bytes' : List ℕ) (at' : ℕ) : Type 0 where
    pub text : List ℕ
    pub ended : put ≡ end_of bytes end text
    pub stored : bytes' ≡ put_of bytes end text
    pub onwards : left i at ≡ text ++ left (onward image h i) at'

  pub printing_begins : IsKind 6 image h n → made ≤ length bytes₀ → Printing bytes₀ made from (node_at image h n).a
  printing_begins template most =
      record { long = refl; above = le_refl made; within = most; kept = refl; rest = refl; node = component_within image h n template }

  -- nothing is left to put
  printing_ends : (bytes : List ℕ) (end at i : ℕ) → Printing bytes end at i → left i at ≡ [] → ComponentsPut image h words n from to made (Some end) bytes₀ bytes
  printing_ends bytes end at i p none =
      let text : take end bytes ≡ take made bytes₀ ++ whole = sym (append-nil (take end bytes)) ∙ ap (λ (r : List ℕ). take end bytes ++ r) (sym none) ∙ p.rest in
      let long = ap length text ∙ length-append (take made bytes₀) whole in
      let size : end ≡ made + length whole = omega (arith, long, p.long, length-take-le end bytes (omega (arith, p.long, p.within)), length-take-le made bytes₀ (omega (arith, p.above, p.within))) in
      record {
        long = p.long;
        before = p.kept;
        ends = ap Some size ∙ (room bytes₀ made whole (sets bytes₀ made whole) (omega (arith, p.within)) refl).0;
        text = λ e q. let same : end ≡ e = cc in ap (λ (k : ℕ). take k bytes) (sym same) ∙ text;
      }

  pub chain_ends : (bytes : List ℕ) (end at i : ℕ) → Printing bytes end at i → i ≡ 0 → ComponentsPut image h words n from to made (Some end) bytes₀ bytes
  unfolding template_text
  chain_ends bytes end at i p z =
      printing_ends bytes end at i p (ap (λ (is : List ℕ). template_text image h before is (drop at (pendings_in to words))) (whole_none image h i z))

  module _ (loaded : IsKind 6 image h n) (bytes : List ℕ) (end at i : ℕ) (p : Printing bytes end at i) (some : i ≡ 0 → ⊥) where
    more : whole_chain image h i ≡ i ∷ whole_chain image h (onward image h i)
    more = whole_more image h loaded.loaded i some p.node

    -- there is no item for it
    pub items_end : ((node_at image h i).kind ≡ 17 → ⊥) → to ≤ at → ComponentsPut image h words n from to made (Some end) bytes₀ bytes
    unfolding template_text
    items_end other past =
        printing_ends bytes end at i p
        (ap₂ (λ (is : List ℕ) (vs : List Value). template_text image h before is vs) more (pendings_none at to words past) ∙ rw (ne_eqb (node_at image h i).kind 17 other))

    text_left : (is : List ℕ) (vs : List Value) → (node_at image h i).kind ≡ 17 → template_text image h before (i ∷ is) vs ≡ literal_text image h (node_at image h i).a ++ template_text image h before is vs
    unfolding template_text
    text_left is [] e = rw e
    text_left is (v ∷ vs) e = rw e

    pub text_component : (put : Option ℕ) (bytes' : List ℕ) → (node_at image h i).kind ≡ 17
        → put ≡ end_of bytes end (literal_text image h (node_at image h i).a) → bytes' ≡ put_of bytes end (literal_text image h (node_at image h i).a)
        → Component bytes end at i put bytes' at
    text_component put bytes' kind ended stored =
        record {
          text = literal_text image h (node_at image h i).a;
          ended = ended;
          stored = stored;
          onwards = ap (λ (is : List ℕ). template_text image h before is (drop at (pendings_in to words))) more ∙ text_left (whole_chain image h (onward image h i)) (drop at (pendings_in to words)) kind;
        }

    abbrev prints : List ℕ → List ℕ
    prints bytes = printed_text image h made bytes (pending_in (rec_at 768 2 at words))

    pub value_component : (put : Option ℕ) (bytes' : List ℕ) → ((node_at image h i).kind ≡ 17 → ⊥) → at < to
        → put ≡ end_of bytes end (prints bytes) → bytes' ≡ put_of bytes end (prints bytes)
        → Component bytes end at i put bytes' (at + 1)
    unfolding template_text
    value_component put bytes' other below ended stored =
        record {
          text = prints bytes;
          ended = ended;
          stored = stored;
          onwards =
              ap₂ (λ (is : List ℕ) (vs : List Value). template_text image h before is vs) more (pendings_more to at words below)
              ∙ rw (ne_eqb (node_at image h i).kind 17 other)
              (ap (λ (t : List ℕ). or_nothing (printed image h (with_text t empty) (pending_in (rec_at 768 2 at words))) ++ left (onward image h i) (at + 1)) (sym p.kept));
        }

    module _ (put : Option ℕ) (bytes' : List ℕ) (at' : ℕ) (c : Component bytes end at i put bytes' at') where
      -- with what was put before, it is no longer than the whole
      size : end + length c.text ≤ made + length whole
      size =
          let both = ap length (ap (λ (r : List ℕ). take end bytes ++ r) (sym c.onwards) ∙ p.rest) ∙ length-append (take made bytes₀) whole in
          let front = length-append (take end bytes) (c.text ++ left (onward image h i) at') in
          let rest = length-append c.text (left (onward image h i) at') in
          omega (arith, both, front, rest, p.long, length-take-le end bytes (omega (arith, p.long, p.within)), length-take-le made bytes₀ (omega (arith, p.above, p.within)))

      pub printing_full : put ≡ None → ComponentsPut image h words n from to made None bytes₀ bytes'
      printing_full full =
          let over = not_ended bytes end c.text (sym full ∙ c.ended) in
          let same : bytes' ≡ bytes = c.stored ∙ sym (no_room bytes end c.text over).1 in
          record {
            long = ap length same ∙ p.long;
            before = ap (take made) same ∙ p.kept;
            ends = (no_room bytes₀ made whole (omega (arith, size, p.long))).0;
            text = λ e q. absurd (cc);
          }

      pub printing_more : (next : ℕ) → put ≡ Some next → Printing bytes' next at' (onward image h i)
      printing_more next e =
          let last : (next ≡ end + length c.text) × (next ≤ length bytes) = ended bytes end c.text (sym e ∙ c.ended) in
          let front : take next bytes' ≡ take end bytes ++ c.text = ap₂ take last.0 c.stored ∙ take_put_end bytes end c.text (omega arith) in
          record {
            long = ap length c.stored ∙ length-put bytes end c.text ∙ p.long;
            above = omega (arith, p.above);
            within = omega (arith, p.long);
            kept = ap (take made) c.stored ∙ take_put bytes end c.text made p.above ∙ p.kept;
            rest =
                ap (λ (r : List ℕ). r ++ left (onward image h i) at') front
                ∙ append_assoc (take end bytes) c.text (left (onward image h i) at')
                ∙ ap (λ (r : List ℕ). take end bytes ++ r) (sym c.onwards)
                ∙ p.rest;
            node = onward_within image h loaded.loaded i (omega arith) p.node;
          }
