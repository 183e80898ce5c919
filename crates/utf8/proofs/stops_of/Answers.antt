-- An entry that no block has named yet is the place 65,535, which is past the last byte and stops where it is.
use Rattle.std.proofs.Common.{◌≡◌, ◌+◌, ◌-◌, ◌*◌, ◌/◌, ◌%◌, ◌≤◌, ◌<◌, ℕ, List, Bool, true, false, refl, sym, ap, subst, ◌∙◌, length, get_or, arith}
use Rattle.std.proofs.Math.ListN.{set, length-set, get_or-replicate}
use Rattle.std.proofs.Math.Seq.{get_or-set_same, get_or-set_other}
use borrow.Author.Tests.{eqb-true, eqb-false}
use lib.Dec.{eqb}
use Rattle.utf8.specs.Runs.{stop_of, Stops}
use Rattle.utf8.proofs.Runs.{stop_past, stop_within}
use Rattle.utf8.proofs.stops_of.Goals as goal

-- an entry that says of a place where its characters stop
abbrev Right : List ℕ → ℕ → Type 0
Right bytes entry = entry % 65536 ≡ stop_of bytes (entry / 65536)

unnamed : (bytes : List ℕ) → length bytes ≤ 65535 → Right bytes 0xFFFFFFFF
unnamed bytes h = sym (stop_past bytes 65535 h)

named : (bytes : List ℕ) (place stop : ℕ) → stop ≡ stop_of bytes place → stop < 65536 → Right bytes (place * 65536 + stop)
named bytes place stop e l =
    let low : (place * 65536 + stop) % 65536 ≡ stop = omega arith in
    let high : (place * 65536 + stop) / 65536 ≡ place = omega arith in
    low ∙ e ∙ ap (stop_of bytes) (sym high)

set-right : (bytes entries : List ℕ) (at entry : ℕ) → at < length entries → Stops bytes entries → Right bytes entry → Stops bytes (set entries at entry)
set-right bytes entries at entry h s r = record { short = s.short; right = λ i l. go i (eqb i at) refl (s.right i l) }
  where
    go : (i : ℕ) (t : Bool) → eqb i at ≡ t → Right bytes (get_or entries i 0) → Right bytes (get_or (set entries at entry) i 0)
    go i true e old = subst (λ (n : ℕ). Right bytes n) (sym (ap (λ (n : ℕ). get_or (set entries at entry) n 0) (eqb-true i at e) ∙ get_or-set_same entries at entry 0 h)) r
    go i false e old = subst (λ (n : ℕ). Right bytes n) (sym (get_or-set_other entries at i entry 0 (eqb-false i at e))) old

pub loop-block-init : goal.loop-block-init
loop-block-init c =
    let bytes = c.args.bytes.now in
    (refl, record { short = c.requires; right = λ i l. subst (λ (n : ℕ). Right bytes n) (sym (get_or-replicate 1024 i 0xFFFFFFFF 0 l)) (unnamed bytes c.requires) })

pub overflow_add-stops : goal.overflow_add-stops
overflow_add-stops c = omega (arith, stop_within c.args.bytes.now c.after_tails-place.result (omega arith))

pub overflow_cast-stops : goal.overflow_cast-stops
overflow_cast-stops c = omega (arith, stop_within c.args.bytes.now c.after_tails-place.result (omega arith))

pub loop-block-preserved-then-place-bytes : goal.loop-block-preserved-then-place-bytes
loop-block-preserved-then-place-bytes c =
    let l = c.loop-block in
    let within = stop_within c.args.bytes.now c.after_tails-place.result (omega arith) in (
      length-set l.stops (l.block - 1) _ ∙ l.invariant.0,
      set-right _ _ _ _ (omega arith) l.invariant.1 (named _ _ _ c.stop_of-stop.ensures (omega arith)),
    )
