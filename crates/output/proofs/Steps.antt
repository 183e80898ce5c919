-- One piece after another: where the next goes, and what stops. Assumes nothing.
use mathlib.Core.Path.{◌≡◌, sym, ap, subst}
use mathlib.Core.Bool.{Bool}
use mathlib.Core.List.{List, [], ◌∷◌, ◌++◌}
use Prim.Native.Nat.{ℕ, suc, ◌-◌, ◌*◌, ◌/◌, ◌%◌, ◌≤◌}
use native.Mathlib.Omega.{arith}
use Rattle.std.specs.Prelude.{Result, Ok, Err}
use lib.ListN.{length}
use Rattle.packed.specs.declared.layout.Header.{Header}
use Rattle.rules.specs.declared.Value.{Value}
use Rattle.rules.specs.Store.{Store, empty}
use Rattle.rules.specs.Output.{Piece, within, pieces, encoded}
use Rattle.stores.specs.Stores.{store_of}
use Rattle.pouring.specs.declared.Spot.{Spot}
use Rattle.pouring.specs.declared.NoPlace.{NoPlace}
use Rattle.pouring.specs.declared.NoPlace.TheVariants.{Nested}
use Rattle.pouring.specs.Pouring.{IsPlace, Puts, bits_before, spot_at}
use Rattle.pouring.proofs.Written.{encoded_keeps}
use Rattle.pouring.proofs.Places.{passed_none, passed_value, passed_then, passed_stop, passed_at, poured_value, poured_too_deep, puts_at}
use Rattle.output.specs.Writing.{Encodes, Writes}
use Rattle.stores.specs.declared.run.Run.{Run}

-- pieces without values do not ask for an image
no_image : Header
no_image = record { edition = 0; functions = 0; nodes = 0; literals = 0; text = 0; root = 0 }

pub puts_place : {writing : Bool} {s t : Spot} {ps : List Piece} {out out₁ : List ℕ} → IsPlace s out → Puts writing (bits_before s) ps out out₁ (Ok t) → IsPlace t out₁
puts_place here first = puts_at no_image empty here.within first

-- ---- pieces in which so many values may stand in one another

module _ {image : List ℕ} {h : Header} {σ : Store} {n : ℕ} {writing : Bool} {s : Spot} {out : List ℕ} where
  pub writes_none : IsPlace s out → Writes image h σ n writing s [] out out (Ok s)
  writes_none here =
      let whole : s.bytes ≡ bits_before s / 8 = omega (arith, here.small) in
      let rest : s.bits ≡ bits_before s % 8 = omega (arith, here.small) in
      let is : s ≡ spot_at (bits_before s) = λ i. record { bytes = whole i; bits = rest i } in
      record { is = passed_none (Ok s) (ap Ok is) }

  pub writes_on : {t : Spot} {ps qs : List Piece} {out₁ out₂ : List ℕ} {r : Result Spot NoPlace} → Writes image h σ n writing s ps out out₁ (Ok t) → Writes image h σ n writing t qs out₁ out₂ r
      → Writes image h σ n writing s (ps ++ qs) out out₂ r
  writes_on first second = record { is = passed_then first.is second.is }

  pub writes_stuck : {ps : List Piece} {out₁ : List ℕ} {why : NoPlace} (qs : List Piece) → Writes image h σ n writing s ps out out₁ (Err why) → Writes image h σ n writing s (ps ++ qs) out out₁ (Err why)
  writes_stuck qs first = record { is = passed_stop qs first.is }

  pub writes_place : {t : Spot} {ps : List Piece} {out₁ : List ℕ} → IsPlace s out → Writes image h σ n writing s ps out out₁ (Ok t) → IsPlace t out₁
  writes_place here first = passed_at (encoded_keeps image h σ n) here.within first.is

  pub writes_long : {ps : List Piece} {out₁ : List ℕ} {r : Result Spot NoPlace} → Writes image h σ n writing s ps out out₁ r → length out₁ ≡ length out
  writes_long first = first.is.is.long

  pub writes_puts : {ps : List Piece} {out₁ : List ℕ} {r : Result Spot NoPlace} → Puts writing (bits_before s) ps out out₁ r → Writes image h σ n writing s ps out out₁ r
  writes_puts first = record { is = first.is image h σ (encoded image h σ n) }

-- ---- a value within, and a value of its pieces

module _ {image : List ℕ} {h : Header} {run : Run} {words bytes : List ℕ} {writing : Bool} {s : Spot} {out : List ℕ} where
  pub writes_value : {n : ℕ} {v : Value} {out₁ : List ℕ} {r : Result Spot NoPlace} → Encodes image h run words bytes v n writing s out out₁ r
      → Writes image h (store_of run words bytes) n writing s (within v ∷ []) out out₁ r
  writes_value e = record { is = passed_value e.is }

  pub encodes_nested : {a : ℕ} {v : Value} → a ≡ 0 → Encodes image h run words bytes v a writing s out out (Err Nested)
  encodes_nested {a} {v} e =
      subst (λ (k : ℕ). Encodes image h run words bytes v k writing s out out (Err Nested)) (sym e)
      (record { is = poured_too_deep image h (store_of run words bytes) v (8 * length out - bits_before s) })

  pub encodes_pieces : {a : ℕ} {v : Value} {ps : List Piece} {out₁ : List ℕ} {r : Result Spot NoPlace} → 1 ≤ a → ps ≡ pieces image h (store_of run words bytes) v
      → Writes image h (store_of run words bytes) (a - 1) writing s ps out out₁ r → Encodes image h run words bytes v a writing s out out₁ r
  encodes_pieces {a} {v} {ps} {out₁} {r} some e w =
      let all : suc (a - 1) ≡ a = omega arith in
      subst (λ (k : ℕ). Encodes image h run words bytes v k writing s out out₁ r) all
      (record {
        is = poured_value image h (store_of run words bytes) v (a - 1)
            (subst (λ (qs : List Piece). Writes image h (store_of run words bytes) (a - 1) writing s qs out out₁ r) e w).is;
      })
