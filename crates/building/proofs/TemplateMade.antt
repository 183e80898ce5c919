-- What a template makes of the store: its text after what was built before, or nothing where there is no room. Assumes nothing.
use mathlib.Core.Path.{◌≡◌, refl, sym, ap, ap₂, ◌∙◌}
use mathlib.Core.Bool.{cond}
use mathlib.Core.List.{List, [], ◌∷◌, ◌++◌}
use mathlib.Core.Option.{Option}
use Prim.Native.Nat.{ℕ, ◌+◌, ◌-◌, ◌≤◌}
use native.Mathlib.Omega.{arith}
use borrow.Author.Tests.{le-leb, lt-leb}
use lib.Dec.{eqb}
use lib.ListN.{length, take, drop}
use lib.Seq.{length-take-le}
use Rattle.packed.specs.declared.layout.Header.{Header}
use Rattle.packed.specs.Layout.{node_at}
use Rattle.std.specs.Prelude.{Some, None, Ok, Err}
use Rattle.rules.specs.declared.Value.{Value}
use Rattle.rules.specs.declared.Value.TheVariants.{Unit as VUnit, Bool as VBool, Char, Unsigned, Signed, Float as VFloat, Text, Bytes, Vec, Tuple, Object}
use Rattle.rules.specs.declared.Refusal.TheVariants.{TextBytes}
use Rattle.rules.specs.Targets.{refusing}
use Rattle.rules.specs.Store.{Store, empty, with_text, dropped, literal_text, text_of as part_of}
use Rattle.rules.specs.Building.{gives, built_text, printed, or_nothing, template_text}
use Rattle.rules.specs.Machine.{whole_chain}
use Rattle.stores.specs.Stores.{text_of, pending_of, store_of, Fits, Became, Makes}
use Rattle.building.specs.Making.{template_made, components_text, ComponentsPut}
use Rattle.numbers.proofs.DecimalLaws.{ended, not_ended}
use Rattle.stores.proofs.Numbers.{text_set, kept_text, fits_text}
use Rattle.stores.proofs.Chains.{kept_bytes, kept_then}
use Rattle.stores.specs.declared.run.Run.{Run}
use Rattle.stores.specs.Run.{set_text}

-- ---- what prints depends on the store's text alone

module _ (image : List ℕ) (h : Header) (σ τ : Store) (same : σ.text ≡ τ.text) where
  same_printed : (v : Value) → printed image h σ v ≡ printed image h τ v
  unfolding part_of
  same_printed VUnit = refl
  same_printed (VBool b) = refl
  same_printed (Char c) = refl
  same_printed (Unsigned x) = refl
  same_printed (Signed z) = refl
  same_printed (VFloat x) = refl
  same_printed (Text s l) = rw same
  same_printed (Bytes s l) = refl
  same_printed (Vec c) = refl
  same_printed (Tuple c) = refl
  same_printed (Object c) = refl

  same_template : (is : List ℕ) (vs : List Value) → template_text image h σ is vs ≡ template_text image h τ is vs
  unfolding template_text
  same_template [] vs = refl
  same_template (i ∷ is) [] = ap (λ (r : List ℕ). cond (eqb (node_at image h i).kind 17) (literal_text image h (node_at image h i).a ++ r) []) (same_template is [])
  same_template (i ∷ is) (v ∷ vs) =
      ap₂ (λ (r s : List ℕ). cond (eqb (node_at image h i).kind 17) (literal_text image h (node_at image h i).a ++ r) s)
      (same_template is (v ∷ vs))
      (ap₂ (λ (p : Option (List ℕ)) (r : List ℕ). or_nothing p ++ r) (same_printed v) (same_template is vs))

-- ---- the store

module _ (image : List ℕ) (h : Header) (n from : ℕ) (run : Run) (words bytes bytes' : List ℕ) (f : Fits run words) (room : length bytes ≡ 16384) where
  abbrev made : ℕ
  made = text_of run

  abbrev whole : List ℕ
  whole = components_text image h words n from (pending_of run) made bytes

  is_built : template_made image h n from (store_of run words bytes) ≡ built_text image h n (dropped from (store_of run words bytes)) whole
  unfolding store_of
  is_built =
      let σ = store_of run words bytes in
      ap (built_text image h n (dropped from σ))
      (same_template image h σ (with_text (take made bytes) empty) refl (whole_chain image h (node_at image h n).a) (drop from σ.pending))

  length-made : length (take made bytes) ≡ made
  length-made = length-take-le made bytes (omega (arith, f.text, room))

  pub template_refused : ComponentsPut image h words n from (pending_of run) made None bytes bytes'
      → Makes (Err (refusing TextBytes n)) (template_made image h n from) run words bytes run words bytes'
  unfolding store_of built_text
  template_refused put =
      let over = not_ended bytes made whole put.ends in
      record {
        did = is_built ∙ rw (lt-leb (length (take made bytes) + length whole) 16384 (omega (arith, length-made)));
        undone = λ r e. rw put.before;
        kept = kept_bytes f put.long;
      }

  module _ (end : ℕ) (put : ComponentsPut image h words n from (pending_of run) made (Some end) bytes bytes') where
    pub template_size : (made + length whole ≤ 16384) × (end ≡ made + length whole)
    template_size =
        let last : (end ≡ made + length whole) × (end ≤ length bytes) = ended bytes made whole put.ends in (omega (arith, room), last.0)

    pub ended_fits : Fits (set_text run end) words
    ended_fits = fits_text run words end f (omega (arith, template_size))

    -- the items given back
    module _ (run'' : Run) (words'' bytes'' : List ℕ) (given_back : Became (dropped from) (set_text run end) words bytes' run'' words'' bytes'') where
      new_store : store_of run'' words'' bytes'' ≡ with_text (take made bytes ++ whole) (dropped from (store_of run words bytes))
      unfolding store_of
      new_store =
          given_back.store
          ∙ ap (dropped from) (text_set run words bytes' end ∙ ap (λ (text : List ℕ). with_text text (store_of run words bytes)) (put.text end refl))

      pub template_made_lem : Makes (Ok (Text (h.text + made) (end - made))) (template_made image h n from) run words bytes run'' words'' bytes''
      unfolding store_of built_text
      template_made_lem =
          let size : length whole ≡ end - made = omega (arith, template_size) in
          record {
            did =
                is_built
                ∙ rw (le-leb (length (take made bytes) + length whole) 16384 (omega (arith, length-made, template_size.0)))
                (ap₂ (λ (k l : ℕ). gives (Text (h.text + k) l) (with_text (take made bytes ++ whole) (dropped from (store_of run words bytes)))) length-made size
                ∙ ap (gives (Text (h.text + made) (end - made))) (sym new_store));
            undone = λ r e. absurd (cc);
            kept = kept_then (kept_bytes f put.long) (kept_then (kept_text run words end bytes' f (omega (arith, template_size))) given_back.kept);
          }
