-- The laws of `Poured`, `Passed` and `Puts`: one after the other, what stops, and where the next bit goes. Assumes nothing.
use mathlib.Core.Path.{◌≡◌, refl, sym, ap, ◌∙◌, subst}
use mathlib.Core.Bool.{Bool, true, false, true≢false}
use mathlib.Core.List.{List, [], ◌∷◌, ◌++◌}
use Prim.Native.Nat.{ℕ, suc, ◌+◌, ◌-◌, ◌*◌, ◌/◌, ◌%◌, ◌≤◌, ◌<◌}
use native.Mathlib.Nat.{add-zero}
use native.Mathlib.Omega.{arith}
use lib.ListN.{length, length-append}
use Rattle.std.specs.Prelude.{Result, Ok, Err}
use Rattle.packed.specs.declared.layout.Header.{Header}
use Rattle.rules.specs.declared.Value.{Value}
use Rattle.rules.specs.Store.{Store}
use Rattle.rules.specs.Output.{Piece, within, Encoded, bits, nested, full, after, and_then, written_by, pieces, encoded, packed}
use Rattle.pouring.specs.declared.Spot.{Spot}
use Rattle.pouring.specs.declared.NoPlace.{NoPlace}
use Rattle.pouring.specs.declared.NoPlace.TheVariants.{Nested, Full}
use Rattle.pouring.specs.Pouring.{poured, Pours, bits_before, IsPlace, spot_at, spot_of, Poured, Passed, Puts}
use Rattle.pouring.proofs.Pouring.{pours_none, pours_then}
use Rattle.pouring.proofs.Written.{then_none, written_append, written_keeps, KeepsRoom, Spells}

-- ---- where the next bit goes

-- a place is told of bits only, and says how many they are
pub record Reached (p : ℕ) (e : Encoded) (s : Spot) : Type 0 where
  pub bs : List ℕ
  pub is : e ≡ bits bs
  pub at : p + length bs ≡ bits_before s
  pub small : s.bits < 8

pub reached : (p : ℕ) (e : Encoded) (s : Spot) → Ok s ≡ spot_of p e → Reached p e s
reached p (bits bs) s e =
    let is : s ≡ spot_at (p + length bs) = cc in
    let whole : s.bytes ≡ (p + length bs) / 8 = ap (λ (t : Spot). t.bytes) is in
    let some : s.bits ≡ (p + length bs) % 8 = ap (λ (t : Spot). t.bits) is in
    record { bs = bs; is = refl; at = omega arith; small = omega arith }
reached p nested s e = cc
reached p full s e = cc

-- ---- bits written, bits measured, and no bits

module _ (writing : Bool) (p : ℕ) (bs out : List ℕ) (r : Result Spot NoPlace) (told : r ≡ Ok (spot_at (p + length bs))) where
  pub poured_written : writing ≡ true → (out' : List ℕ) → Pours p bs out out' → Poured writing p (bits bs) out out' r
  poured_written w out' pours =
      record {
        told = told;
        written = λ t cs e. let same : bs ≡ cs = cc in subst (λ (l : List ℕ). Pours p l out out') same pours;
        kept = λ f. absurd (true≢false (sym w ∙ f));
        long = pours.long;
      }

  pub poured_measured : writing ≡ false → Poured writing p (bits bs) out out r
  poured_measured w = record { told = told; written = λ t cs e. absurd (true≢false (sym t ∙ w)); kept = λ f. refl; long = refl }

poured_none : (writing : Bool) (p : ℕ) (e : Encoded) (out : List ℕ) → ((bs : List ℕ) → e ≡ bits bs → ⊥) → Poured writing p e out out (spot_of p e)
poured_none writing p e out none = record { told = refl; written = λ t bs q. absurd (none bs q); kept = λ f. refl; long = refl }

pub poured_nested : (writing : Bool) (p : ℕ) (out : List ℕ) → Poured writing p nested out out (Err Nested)
poured_nested writing p out = poured_none writing p nested out (λ bs q. cc)

pub poured_full : (writing : Bool) (p : ℕ) (out : List ℕ) → Poured writing p full out out (Err Full)
poured_full writing p out = poured_none writing p full out (λ bs q. cc)

-- ---- one encoding after another

spot_after : (p : ℕ) (cs : List ℕ) (e : Encoded) → spot_of (p + length cs) e ≡ spot_of p (after cs e)
spot_after p cs (bits bs) =
    let n : p + length cs + length bs ≡ p + length (cs ++ bs) = omega (arith, length-append cs bs) in
    ap (λ (k : ℕ). Ok (spot_at k)) n
spot_after p cs nested = refl
spot_after p cs full = refl

pours_after : {p : ℕ} {cs out out₁ out₂ : List ℕ} (e : Encoded) (ds : List ℕ) → Pours p cs out out₁
    → ((bs : List ℕ) → e ≡ bits bs → Pours (p + length cs) bs out₁ out₂) → after cs e ≡ bits ds → Pours p ds out out₂
pours_after {p} {cs} {out} {out₁} {out₂} (bits bs) ds first second q =
    let same : cs ++ bs ≡ ds = cc in
    subst (λ (l : List ℕ). Pours p l out out₂) same (pours_then first (second bs refl))
pours_after nested ds first second q = cc
pours_after full ds first second q = cc

pub poured_then : {writing : Bool} {p : ℕ} {cs out out₁ out₂ : List ℕ} {r₁ r : Result Spot NoPlace} (e : Encoded)
    → Poured writing p (bits cs) out out₁ r₁ → Poured writing (p + length cs) e out₁ out₂ r → Poured writing p (after cs e) out out₂ r
poured_then {p = p} {cs = cs} e first second =
    record {
      told = second.told ∙ spot_after p cs e;
      written = λ w ds q. pours_after e ds (first.written w cs refl) (second.written w) q;
      kept = λ f. second.kept f ∙ first.kept f;
      long = second.long ∙ first.long;
    }

-- the rest, from the place that the first came to
pub poured_on : {writing : Bool} {p : ℕ} {s : Spot} {out out₁ out₂ : List ℕ} {r : Result Spot NoPlace} (e : Encoded) (on : List ℕ → Encoded) → Poured writing p e out out₁ (Ok s)
    → ((bs : List ℕ) → e ≡ bits bs → p + length bs ≡ bits_before s → Poured writing (bits_before s) (on bs) out₁ out₂ r) → Poured writing p (and_then e on) out out₂ r
poured_on {writing} {p} {s} {out} {out₁} {out₂} {r} (bits bs) on first rest =
    let here = reached p (bits bs) s first.told in
    let same : here.bs ≡ bs = cc here.is in
    let at : p + length bs ≡ bits_before s = ap (λ (l : List ℕ). p + length l) (sym same) ∙ here.at in
    poured_then (on bs) first (subst (λ (n : ℕ). Poured writing n (on bs) out₁ out₂ r) (sym at) (rest bs refl at))
poured_on {p = p} {s = s} nested on first rest = cc first.told
poured_on {p = p} {s = s} full on first rest = cc first.told

-- what has no place to go on from ends all
pub poured_stop : {writing : Bool} {p : ℕ} {out out' : List ℕ} {why : NoPlace} (e : Encoded) (on : List ℕ → Encoded)
    → Poured writing p e out out' (Err why) → Poured writing p (and_then e on) out out' (Err why)
poured_stop {p = p} {why = why} (bits bs) on first = cc first.told
poured_stop nested on first = first
poured_stop full on first = first

-- all of it, from the start
pub poured_all : {bs out out' : List ℕ} {r : Result Spot NoPlace} → Poured true 0 (bits bs) out out' r → out' ≡ poured out bs
unfolding packed
poured_all {bs} {out} done = (done.written refl bs refl).after out [] refl refl

-- ---- pieces

module _ {image : List ℕ} {h : Header} {σ : Store} {write : ℕ → Value → Encoded} {writing : Bool} {p : ℕ} {out : List ℕ} where
  pub passed_none : (r : Result Spot NoPlace) → r ≡ Ok (spot_at p) → Passed image h σ write writing p [] out out r
  unfolding written_by
  passed_none r e =
      record {
        is = record {
          told = e ∙ ap (λ (k : ℕ). Ok (spot_at k)) (sym (add-zero p));
          written = λ t cs q. let same : [] ≡ cs = cc in subst (λ (l : List ℕ). Pours p l out out) same (pours_none p out);
          kept = λ f. refl;
          long = refl;
        };
      }

  -- a value within
  pub passed_value : {v : Value} {out' : List ℕ} {r : Result Spot NoPlace} → Poured writing p (write (8 * length out - p) v) out out' r
      → Passed image h σ write writing p (within v ∷ []) out out' r
  unfolding written_by
  passed_value {v} {out'} {r} one =
      record { is = subst (λ (e : Encoded). Poured writing p e out out' r) (sym (then_none (write (8 * length out - p) v))) one }

  pub passed_then : {s : Spot} {ps qs : List Piece} {out₁ out₂ : List ℕ} {r : Result Spot NoPlace} → Passed image h σ write writing p ps out out₁ (Ok s)
      → Passed image h σ write writing (bits_before s) qs out₁ out₂ r → Passed image h σ write writing p (ps ++ qs) out out₂ r
  passed_then {s} {ps} {qs} {out₁} {out₂} {r} first second =
      let room = 8 * length out - p in
      let e = written_by image h σ write room ps in
      let on : List ℕ → Encoded = λ bs. written_by image h σ write (room - length bs) qs in
      let rest : (bs : List ℕ) → e ≡ bits bs → p + length bs ≡ bits_before s → Poured writing (bits_before s) (on bs) out₁ out₂ r =
      λ bs q at.
      let left : 8 * length out₁ - bits_before s ≡ room - length bs = omega (arith, first.is.long) in
      subst (λ (n : ℕ). Poured writing (bits_before s) (written_by image h σ write n qs) out₁ out₂ r) left second.is in
      record { is = subst (λ (e : Encoded). Poured writing p e out out₂ r) (sym (written_append image h σ write room ps qs)) (poured_on e on first.is rest) }

  pub passed_stop : {ps : List Piece} {out' : List ℕ} {why : NoPlace} (qs : List Piece) → Passed image h σ write writing p ps out out' (Err why)
      → Passed image h σ write writing p (ps ++ qs) out out' (Err why)
  passed_stop {ps} {out'} {why} qs first =
      let room = 8 * length out - p in
      record {
        is =
            subst (λ (e : Encoded). Poured writing p e out out' (Err why)) (sym (written_append image h σ write room ps qs))
            (poured_stop (written_by image h σ write room ps) (λ bs. written_by image h σ write (room - length bs) qs) first.is);
      }

  -- the place that pieces came to is one
  pub passed_at : {s : Spot} {ps : List Piece} {out' : List ℕ} → KeepsRoom write → p ≤ 8 * length out → Passed image h σ write writing p ps out out' (Ok s)
      → IsPlace s out'
  passed_at {s} {ps} {out'} keep l first =
      let room = 8 * length out - p in
      let here = reached p (written_by image h σ write room ps) s first.is.told in
      record { small = here.small; within = omega (arith, here.at, first.is.long, written_keeps image h σ write keep room ps here.bs here.is) }

-- the pieces of a value are its encoding, and past the allowance there is none
module _ (image : List ℕ) (h : Header) (σ : Store) (v : Value) {writing : Bool} {p : ℕ} {out : List ℕ} where
  pub poured_value : {out' : List ℕ} {r : Result Spot NoPlace} (n : ℕ) → Passed image h σ (encoded image h σ n) writing p (pieces image h σ v) out out' r
      → Poured writing p (encoded image h σ (suc n) (8 * length out - p) v) out out' r
  unfolding encoded
  poured_value n done = done.is

  pub poured_too_deep : (room : ℕ) → Poured writing p (encoded image h σ 0 room v) out out (Err Nested)
  unfolding encoded
  poured_too_deep room = poured_nested writing p out

-- ---- pieces that hold no value

module _ (writing : Bool) (p n : ℕ) (ps : List Piece) (bs out : List ℕ) (spells : Spells ps n bs) where
  pub puts_no_room : p ≤ 8 * length out → 8 * length out < p + n → Puts writing p ps out out (Err Full)
  puts_no_room l over =
      record {
        is = λ image h σ write. record {
          is =
              subst (λ (e : Encoded). Poured writing p e out out (Err Full)) (sym (spells.lacks image h σ write (8 * length out - p) (omega arith)))
              (poured_full writing p out);
        };
      }

  module _ (s : Spot) {q : ℕ} (at : q ≡ p + n) (within : q ≤ 8 * length out) (told : s ≡ spot_at q) where
    abbrev r : Result Spot NoPlace
    r = Ok s

    told_long : r ≡ Ok (spot_at (p + length bs))
    told_long =
        let all : q ≡ p + length bs = omega (arith, spells.long) in
        ap Ok (told ∙ ap spot_at all)

    puts_bits : (out' : List ℕ) → Poured writing p (bits bs) out out' r → Puts writing p ps out out' r
    puts_bits out' done =
        record {
          is = λ image h σ write. record {
            is =
                subst (λ (e : Encoded). Poured writing p e out out' r) (sym (spells.fits image h σ write (8 * length out - p) (omega arith))) done;
          };
        }

    pub puts_measured : writing ≡ false → Puts writing p ps out out r
    puts_measured w = puts_bits out (poured_measured writing p bs out r told_long w)

    pub puts_written : writing ≡ true → (out' : List ℕ) → Pours p bs out out' → Puts writing p ps out out' r
    puts_written w out' pours = puts_bits out' (poured_written writing p bs out r told_long w out' pours)

module _ {writing : Bool} {p : ℕ} {out : List ℕ} where
  pub puts_then : {s : Spot} {ps qs : List Piece} {out₁ out₂ : List ℕ} {r : Result Spot NoPlace} → Puts writing p ps out out₁ (Ok s) → Puts writing (bits_before s) qs out₁ out₂ r
      → Puts writing p (ps ++ qs) out out₂ r
  puts_then first second = record { is = λ image h σ write. passed_then (first.is image h σ write) (second.is image h σ write) }

  pub puts_stop : {ps : List Piece} {out' : List ℕ} {why : NoPlace} (qs : List Piece) → Puts writing p ps out out' (Err why) → Puts writing p (ps ++ qs) out out' (Err why)
  puts_stop qs first = record { is = λ image h σ write. passed_stop qs (first.is image h σ write) }

  pub puts_at : {s : Spot} {ps : List Piece} {out' : List ℕ} → Header → Store → p ≤ 8 * length out → Puts writing p ps out out' (Ok s) → IsPlace s out'
  puts_at h σ l first =
      passed_at (record { keeps = λ room v bs e. cc }) l (first.is [] h σ (λ room v. full))
