-- A value is its head and what is within it; what was measured is then written. Assumes nothing.
use mathlib.Core.Path.{◌≡◌, refl, sym, ap, ◌∙◌, subst}
use mathlib.Core.Bool.{Bool, true, false}
use mathlib.Core.List.{List, [], ◌++◌, append-nil}
use Prim.Native.Nat.{ℕ, ◌+◌, ◌-◌, ◌*◌, ◌/◌, ◌≤◌}
use native.Mathlib.Omega.{arith}
use native.Mathlib.Nat.{sub-zero}
use mathlib.Core.Logic.{◌⊎◌, inl, inr}
use lib.ListN.{length}
use Rattle.packed.specs.declared.layout.Header.{Header}
use Rattle.rules.specs.declared.Value.{Value}
use Rattle.rules.specs.declared.Value.TheVariants.{Unit as VUnit, Bool as VBool, Char, Unsigned, Signed, Float as VFloat, Text, Bytes, Vec, Tuple, Object}
use Rattle.rules.specs.Store.{Store}
use Rattle.rules.specs.Output.{Piece, Encoded, bits, nested, full, pieces, encoded, entry_pieces, sorted_entries}
use Rattle.rules.specs.Runs.{out_of, value_encoded}
use Rattle.stores.specs.Stores.{store_of}
use Rattle.std.specs.Prelude.{Result, Ok, Err}
use Rattle.pouring.specs.declared.Spot.{Spot}
use Rattle.pouring.specs.declared.NoPlace.{NoPlace}
use Rattle.pouring.specs.declared.NoPlace.TheVariants.{Nested, Full}
use Rattle.pouring.specs.Pouring.{IsPlace, Poured, Puts, bits_before}
use Rattle.pouring.proofs.Places.{reached, poured_all}
use Rattle.output.specs.Writing.{head_pieces, item_pieces, object_pieces, Encodes, Writes, written_of, Wrote}
use Rattle.output.proofs.Steps.{writes_on, writes_stuck, writes_place, writes_puts, writes_value, encodes_pieces}
use Rattle.stores.specs.declared.run.Run.{Run}

module _ (image : List ℕ) (h : Header) (σ : Store) where
  -- what is within a value
  body_pieces : Value → List Piece
  body_pieces VUnit = []
  body_pieces (VBool b) = []
  body_pieces (Unsigned x) = []
  body_pieces (Signed z) = []
  body_pieces (VFloat x) = []
  body_pieces (Char c) = []
  body_pieces (Text s l) = []
  body_pieces (Bytes s l) = []
  body_pieces (Vec c) = item_pieces image h σ c
  body_pieces (Tuple c) = item_pieces image h σ c
  body_pieces (Object c) = entry_pieces image h σ (sorted_entries image h σ c σ.cells)

  both : (v : Value) → head_pieces image h σ v ++ body_pieces v ≡ pieces image h σ v
  unfolding pieces body_pieces
  both VUnit = refl
  both (VBool b) = refl
  both (Unsigned x) = refl
  both (Signed z) = refl
  both (VFloat x) = refl
  both (Char c) = refl
  both (Text s l) = append-nil _
  both (Bytes s l) = append-nil _
  both (Vec c) = refl
  both (Tuple c) = refl
  both (Object c) = refl

  -- values that hold no others
  plain : (v : Value) → ((c : ℕ) → v ≡ Vec c → ⊥) → ((c : ℕ) → v ≡ Tuple c → ⊥) → ((c : ℕ) → v ≡ Object c → ⊥) → head_pieces image h σ v ≡ pieces image h σ v
  unfolding pieces
  plain VUnit vec tuple object = refl
  plain (VBool b) vec tuple object = refl
  plain (Unsigned x) vec tuple object = refl
  plain (Signed z) vec tuple object = refl
  plain (VFloat x) vec tuple object = refl
  plain (Char c) vec tuple object = refl
  plain (Text s l) vec tuple object = refl
  plain (Bytes s l) vec tuple object = refl
  plain (Vec c) vec tuple object = absurd (vec c refl)
  plain (Tuple c) vec tuple object = absurd (tuple c refl)
  plain (Object c) vec tuple object = absurd (object c refl)

module _ {image : List ℕ} {h : Header} {run : Run} {words bytes : List ℕ} (v : Value) {a : ℕ} {writing : Bool} {s : Spot} {out out₁ : List ℕ} (some : 1 ≤ a) where
  pub head_stuck : {why : NoPlace} → Puts writing (bits_before s) (head_pieces image h (store_of run words bytes) v) out out₁ (Err why) → Encodes image h run words bytes v a writing s out out₁ (Err why)
  head_stuck first = encodes_pieces some (both image h (store_of run words bytes) v) (writes_stuck (body_pieces image h (store_of run words bytes) v) (writes_puts first))

  module _ {t : Spot} (first : Puts writing (bits_before s) (head_pieces image h (store_of run words bytes) v) out out₁ (Ok t)) where
    pub head_alone : ((c : ℕ) → v ≡ Vec c → ⊥) → ((c : ℕ) → v ≡ Tuple c → ⊥) → ((c : ℕ) → v ≡ Object c → ⊥) → Encodes image h run words bytes v a writing s out out₁ (Ok t)
    head_alone vec tuple object = encodes_pieces some (plain image h (store_of run words bytes) v vec tuple object) (writes_puts first)

    -- and with what is within it
    with_body : {ps : List Piece} {out₂ : List ℕ} {r : Result Spot NoPlace} → ps ≡ body_pieces image h (store_of run words bytes) v
        → Writes image h (store_of run words bytes) (a - 1) writing t ps out₁ out₂ r → Encodes image h run words bytes v a writing s out out₂ r
    with_body q rest =
        encodes_pieces some (ap (λ (qs : List Piece). head_pieces image h (store_of run words bytes) v ++ qs) q ∙ both image h (store_of run words bytes) v) (writes_on (writes_puts first) rest)

    module _ {c : ℕ} {out₂ : List ℕ} {r : Result Spot NoPlace} where
      pub head_items : (v ≡ Vec c) ⊎ (v ≡ Tuple c) → Writes image h (store_of run words bytes) (a - 1) writing t (item_pieces image h (store_of run words bytes) c) out₁ out₂ r
          → Encodes image h run words bytes v a writing s out out₂ r
      unfolding body_pieces
      head_items (inl q) rest = with_body (ap (body_pieces image h (store_of run words bytes)) (sym q)) rest
      head_items (inr q) rest = with_body (ap (body_pieces image h (store_of run words bytes)) (sym q)) rest

      pub head_object : v ≡ Object c → Writes image h (store_of run words bytes) (a - 1) writing t (object_pieces image h (store_of run words bytes) c) out₁ out₂ r → Encodes image h run words bytes v a writing s out out₂ r
      unfolding body_pieces
      head_object q rest = with_body (ap (body_pieces image h (store_of run words bytes)) (sym q)) rest

-- ---- measured, and then written

-- where a value begins
abbrev pub start : Spot
start = record { bytes = 0; bits = 0 }

pub whole_at : {image : List ℕ} {h : Header} {run : Run} {words bytes : List ℕ} {v : Value} {writing : Bool} {end : Spot} {out out₁ : List ℕ} → Encodes image h run words bytes v 64 writing start out out₁ (Ok end)
    → IsPlace end out₁
whole_at x = writes_place (record { small = omega arith; within = omega arith }) (writes_value x)

of_stuck : (image : List ℕ) (h : Header) (out out₁ : List ℕ) (d : Encoded) (why : NoPlace) → Poured false 0 d out out₁ (Err why) → (Err why ≡ written_of d) × (out₁ ≡ out_of image h out d)
of_stuck image h out out₁ (bits bs) why p = cc p.told
of_stuck image h out out₁ nested why p = let e : why ≡ Nested = cc p.told in (ap Err e, p.kept refl)
of_stuck image h out out₁ full why p = let e : why ≡ Full = cc p.told in (ap Err e, p.kept refl)

-- what was measured has a place
of_placed : (out out₁ out₂ : List ℕ) (d : Encoded) (end : Spot) (why : NoPlace) → Poured false 0 d out out₁ (Ok end) → Poured true 0 d out out₂ (Err why) → ⊥
of_placed out out₁ out₂ (bits bs) end why p q = cc q.told
of_placed out out₁ out₂ nested end why p q = cc p.told
of_placed out out₁ out₂ full end why p q = cc p.told

of_written : (image : List ℕ) (h : Header) (out out₂ : List ℕ) (d : Encoded) (end : Spot) (n : ℕ) → Poured true 0 d out out₂ (Ok end) → n ≡ (bits_before end + 7) / 8
    → (Ok n ≡ written_of d) × (out₂ ≡ out_of image h out d)
of_written image h out out₂ (bits bs) end n q e =
    let here = reached 0 (bits bs) end q.told in
    let same : here.bs ≡ bs = cc here.is in
    let long : length bs ≡ bits_before end = ap length (sym same) ∙ omega (arith, here.at) in
    (ap Ok (e ∙ ap (λ (k : ℕ). (k + 7) / 8) (sym long)), poured_all q)
of_written image h out out₂ nested end n q e = cc q.told
of_written image h out out₂ full end n q e = cc q.told

module _ {image : List ℕ} {h : Header} {run : Run} {words bytes : List ℕ} {v : Value} {out : List ℕ} where
  -- from the start there is all the room
  whole : {writing : Bool} {out₁ : List ℕ} {r : Result Spot NoPlace} → Encodes image h run words bytes v 64 writing start out out₁ r → Poured writing 0 (value_encoded image h out v (store_of run words bytes)) out out₁ r
  whole {writing} {out₁} {r} x = subst (λ (n : ℕ). Poured writing 0 (encoded image h (store_of run words bytes) 64 n v) out out₁ r) (sub-zero (8 * length out)) x.is

  pub wrote_none : {out₁ : List ℕ} {why : NoPlace} → Encodes image h run words bytes v 64 false start out out₁ (Err why) → Wrote image h (store_of run words bytes) v out out₁ (Err why)
  wrote_none {out₁} {why} measured = let w = of_stuck image h out out₁ (value_encoded image h out v (store_of run words bytes)) why (whole measured) in record { told = w.0; left = w.1 }

  module _ {out₁ : List ℕ} {end : Spot} (measured : Encodes image h run words bytes v 64 false start out out₁ (Ok end)) where
    again : {out₂ : List ℕ} {r : Result Spot NoPlace} → Encodes image h run words bytes v 64 true start out₁ out₂ r → Encodes image h run words bytes v 64 true start out out₂ r
    again {out₂} {r} written = subst (λ (o : List ℕ). Encodes image h run words bytes v 64 true start o out₂ r) (measured.is.kept refl) written

    pub wrote_placed : {out₂ : List ℕ} {why : NoPlace} → Encodes image h run words bytes v 64 true start out₁ out₂ (Err why) → ⊥
    wrote_placed {out₂} {why} written = of_placed out out₁ out₂ (value_encoded image h out v (store_of run words bytes)) end why (whole measured) (whole (again written))

    pub wrote_length : {n : ℕ} {to : Spot} {out₂ : List ℕ} → Encodes image h run words bytes v 64 true start out₁ out₂ (Ok to) → n ≡ (bits_before to + 7) / 8
        → Wrote image h (store_of run words bytes) v out out₂ (Ok n)
    wrote_length {n} {to} {out₂} written l = let w = of_written image h out out₂ (value_encoded image h out v (store_of run words bytes)) to n (whole (again written)) l in record { told = w.0; left = w.1 }
