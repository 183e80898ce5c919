-- The laws of characters that stand one after the other: where they stop, and that a part is UTF-8 exactly if it ends where one of them
-- ends. No byte with which a character starts is a tail, and all its others are. Assumes nothing.
use mathlib.Core.Path.{◌≡◌, refl, sym, ap, ◌∙◌}
use mathlib.Core.Bool.{Bool, true, false, cond, not, ◌&&◌, ◌||◌, and-false, and_assoc, and-eq-true_iff, false≢true}
use mathlib.Core.List.{List, [], ◌∷◌}
use Prim.Native.Nat.{ℕ, zero, suc, ◌+◌, ◌-◌, ◌≤◌, ◌<◌}
use native.Mathlib.Nat.{not-suc-le-zero, le_of_suc-le-suc}
use native.Mathlib.Decide.{dec_lt}
use native.Mathlib.Numerals.{sub-one}
use native.Mathlib.Omega.{arith}
use borrow.Author.Tests.{leb-true, le-leb, lt-leb, ltb-true, eqb-true, eqb-false, eq-eqb, ne_eqb}
use lib.Dec.{leb, ltb, eqb, leb-zero, leb-suc-zero, leb-suc-suc, eqb-zero-suc, eqb-suc-suc}
use lib.ListN.{length, take, drop, replicate, length-drop, drop_of_length-le}
use lib.Seq.{slice, length-take-le, take-add, drop_at, drop-drop}
use Rattle.utf8.specs.Utf8.{Range, within, tail, table, starts, row_of, char_len, utf8_past, utf8_of}
use Rattle.utf8.specs.Runs.{run_past, stop_of}
use Rattle.utf8.proofs.Chars.{by_row, char_within}
use Rattle.utf8.proofs.Leads.{Each, each_in}

-- ---- the bytes of a character: its first is no tail, the others are

-- the bytes of a row: those of the first range are no tails, those of the others are
abbrev all_tails : List Range → Bool
all_tails [] = true
all_tails (range ∷ ranges) = leb 0x80 range.0 && leb range.1 0xBF && all_tails ranges

abbrev no_tail : Range → Bool
no_tail range = ltb range.1 0x80 || ltb 0xBF range.0

abbrev Apart : List Range → Type 0
Apart [] = Unit
Apart (range ∷ ranges) = (no_tail range ≡ true) × (all_tails ranges ≡ true)

apart : Each Apart table
unfolding table
apart = ((refl, refl), ((refl, refl), ((refl, refl), ((refl, refl), ((refl, refl), ((refl, refl), ((refl, refl), ((refl, refl), ((refl, refl), tt)))))))))

tails_start : (ranges : List Range) (bytes : List ℕ) → all_tails ranges ≡ true → starts ranges bytes ≡ true
    → starts (replicate (length ranges) tail) bytes ≡ true
unfolding starts
tails_start [] bytes t s = refl
tails_start (range ∷ ranges) [] t s = absurd (false≢true s)
tails_start (range ∷ ranges) (first ∷ rest) t s =
    let p = (and-eq-true_iff (leb 0x80 range.0 && leb range.1 0xBF) (all_tails ranges)).0 t in
    let q = (and-eq-true_iff (leb 0x80 range.0) (leb range.1 0xBF)).0 p.0 in
    let u = (and-eq-true_iff (within range first) (starts ranges rest)).0 s in
    let v = (and-eq-true_iff (leb range.0 first) (leb first range.1)).0 u.0 in
    let low = leb-true range.0 first v.0 in
    let high = leb-true first range.1 v.1 in
    let least = leb-true 0x80 range.0 q.0 in
    let most = leb-true range.1 0xBF q.1 in
    rw (le-leb 0x80 first (omega arith), le-leb first 0xBF (omega arith)) (tails_start ranges rest p.1 u.1)

no_tail_lem : (range : Range) (first : ℕ) → no_tail range ≡ true → within range first ≡ true → within tail first ≡ false
no_tail_lem range first n w =
    let p = (and-eq-true_iff (leb range.0 first) (leb first range.1)).0 w in
    go (ltb range.1 0x80) refl (leb-true range.0 first p.0) (leb-true first range.1 p.1) n
  where
    go : (t : Bool) → ltb range.1 0x80 ≡ t → range.0 ≤ first → first ≤ range.1 → (t || ltb 0xBF range.0) ≡ true → within tail first ≡ false
    go true e low high n =
        let below = ltb-true range.1 0x80 e in
        rw (lt-leb 0x80 first (omega arith)) refl
    go false e low high n =
        let above = ltb-true 0xBF range.0 n in
        rw (lt-leb first 0xBF (omega arith), and-false (leb 0x80 first)) refl

-- ---- the same of bytes that are cut

starts_take : (ranges : List Range) (k : ℕ) (bytes : List ℕ) → starts ranges (take k bytes) ≡ (starts ranges bytes && leb (length ranges) k)
unfolding starts
starts_take [] k bytes = rw (leb-zero k) refl
starts_take (range ∷ ranges) zero bytes = rw (leb-suc-zero (length ranges), and-false (starts (range ∷ ranges) bytes)) refl
starts_take (range ∷ ranges) (suc k) [] = refl
starts_take (range ∷ ranges) (suc k) (first ∷ rest) =
    rw (leb-suc-suc (length ranges) k, starts_take ranges k rest, and_assoc (within range first) (starts ranges rest) (leb (length ranges) k)) refl

-- how long the character is that bytes start with, by the row of the first
abbrev len_by : List Range → List ℕ → ℕ
len_by row bytes = cond (starts row bytes) (length row) 0

-- bytes start with no character, however they are cut, or with one of `more` bytes past the first, which a cut before its end takes away
data Begins (row : List Range) (first : ℕ) (rest : List ℕ) : Type 0 where
  none : len_by row (first ∷ rest) ≡ 0 → ((k : ℕ) → len_by row (first ∷ take k rest) ≡ 0) → Begins row first rest
  one : (more : ℕ) → len_by row (first ∷ rest) ≡ suc more → within tail first ≡ false → starts (replicate more tail) rest ≡ true
      → ((k : ℕ) → len_by row (first ∷ take k rest) ≡ cond (leb more k) (suc more) 0) → Begins row first rest

begins : (first : ℕ) (rest : List ℕ) → Begins (row_of table first) first rest
unfolding starts
begins first rest = by_row (λ (row : List Range). Begins row first rest) first table (none refl (λ k. refl)) (λ range ranges m w. go range ranges (each_in Apart m apart) w (starts ranges rest) refl)
  where
    go : (range : Range) (ranges : List Range) → Apart (range ∷ ranges) → within range first ≡ true → (t : Bool) → starts ranges rest ≡ t
        → Begins (range ∷ ranges) first rest
    go range ranges a w true s =
        one (length ranges) (rw (w, s) refl) (no_tail_lem range first a.0 w) (tails_start ranges rest a.1 s) (λ k. rw (w, starts_take ranges k rest, s) refl)
    go range ranges a w false s = none (rw (w, s) refl) (λ k. rw (w, starts_take ranges k rest, s) refl)

-- ---- a part that starts where a character may

-- whether it ends where one of the characters ends that stand one after the other: where they stop, or before a byte that is no tail
abbrev ends : ℕ → ℕ → List ℕ → Bool
ends run k bytes = cond (leb run k) (eqb run k) (not (starts (tail ∷ []) (drop k bytes)))

-- bytes that end in a character are not UTF-8
past_short : (left k : ℕ) (bytes : List ℕ) → k < left → utf8_past left (take k bytes) ≡ false
unfolding utf8_past
past_short zero k bytes h = absurd (not-suc-le-zero h)
past_short (suc left) zero bytes h = refl
past_short (suc left) (suc k) [] h = refl
past_short (suc left) (suc k) (first ∷ rest) h = past_short left k rest (le_of_suc-le-suc h)

-- past a first character
run_one : (first more : ℕ) (rest : List ℕ) → char_len (first ∷ rest) ≡ suc more → run_past 0 (first ∷ rest) ≡ suc (run_past more rest)
unfolding run_past
run_one first more rest e = rw (e, le-leb 1 (suc more) (omega arith), sub-one (suc more)) refl

part_past : (left k : ℕ) (bytes : List ℕ) → starts (replicate left tail) bytes ≡ true → k ≤ length bytes
    → utf8_past left (take k bytes) ≡ ends (run_past left bytes) k bytes
unfolding utf8_past run_past starts char_len
part_past zero zero [] s h = refl
part_past zero (suc k) [] s h = absurd (not-suc-le-zero h)
part_past (suc left) k [] s h = absurd (false≢true s)
part_past (suc left) zero (first ∷ rest) s h =
    rw (leb-suc-zero (run_past left rest), ((and-eq-true_iff (within tail first) (starts (replicate left tail) rest)).0 s).0) refl
part_past (suc left) (suc k) (first ∷ rest) s h =
    rw (leb-suc-suc (run_past left rest) k, eqb-suc-suc (run_past left rest) k)
    (part_past left k rest ((and-eq-true_iff (within tail first) (starts (replicate left tail) rest)).0 s).1 (le_of_suc-le-suc h))
part_past zero zero (first ∷ rest) s h = go (begins first rest)
  where
    go : Begins (row_of table first) first rest → true ≡ ends (run_past 0 (first ∷ rest)) 0 (first ∷ rest)
    go (none e f) = rw e refl
    go (one more e n t f) = rw (run_one first more rest e, leb-suc-zero (run_past more rest), n) refl
part_past zero (suc k) (first ∷ rest) s h = go (begins first rest) (λ left t. part_past left k rest t (le_of_suc-le-suc h))
  where
    cut : (more : ℕ) → Dec (k < more) → utf8_past more (take k rest) ≡ ends (run_past more rest) k rest
        → (leb 1 (cond (leb more k) (suc more) 0) && utf8_past (cond (leb more k) (suc more) 0 - 1) (take k rest)) ≡ ends (run_past more rest) k rest
    cut more (yes l) again = rw (lt-leb more k l) (sym (past_short more k rest l) ∙ again)
    cut more (no l) again = rw (le-leb more k (omega arith), le-leb 1 (suc more) (omega arith), sub-one (suc more)) again

    go : Begins (row_of table first) first rest
        → ((left : ℕ) → starts (replicate left tail) rest ≡ true → utf8_past left (take k rest) ≡ ends (run_past left rest) k rest)
        → utf8_past 0 (first ∷ take k rest) ≡ ends (run_past 0 (first ∷ rest)) (suc k) (first ∷ rest)
    go (none e f) again = rw (e, f k, eqb-zero-suc k, leb-zero (suc k)) refl
    go (one more e n t f) again =
        rw (run_one first more rest e, f k, leb-suc-suc (run_past more rest) k, eqb-suc-suc (run_past more rest) k) (cut more (dec_lt k more) (again more t))

-- a slice, its front cut off first
pub slice_is : (from to : ℕ) (bytes : List ℕ) → from ≤ to → to ≤ length bytes → slice from to bytes ≡ take (to - from) (drop from bytes)
slice_is from to bytes h l =
    let e : to ≡ from + (to - from) = omega arith in
    ap (λ (n : ℕ). drop from (take n bytes)) e ∙ ap (drop from) (take-add from (to - from) bytes)
    ∙ drop_at (take from bytes) (take (to - from) (drop from bytes)) from (length-take-le from bytes (omega arith))

eqb_shift : (a b n : ℕ) → n ≤ b → eqb a (b - n) ≡ eqb (n + a) b
eqb_shift a b n h = go (eqb a (b - n)) refl
  where
    go : (t : Bool) → eqb a (b - n) ≡ t → t ≡ eqb (n + a) b
    go true e =
        let same = eqb-true a (b - n) e in
        sym (eq-eqb (n + a) b (omega arith))
    go false e = sym (ne_eqb (n + a) b (λ same. eqb-false a (b - n) e (omega arith)))

-- a part is UTF-8 exactly if it ends where a character ends: where they stop, or, before that, at a byte that is no tail
module _ (bytes : List ℕ) (from to : ℕ) (ordered : from ≤ to) (inside : to ≤ length bytes) where
  part : utf8_of (slice from to bytes) ≡ ends (run_past 0 (drop from bytes)) (to - from) (drop from bytes)
  unfolding utf8_of starts
  part = ap utf8_of (slice_is from to bytes ordered inside) ∙ part_past 0 (to - from) (drop from bytes) refl (omega (arith, length-drop from bytes))

  pub part_stopped : stop_of bytes from ≤ to → utf8_of (slice from to bytes) ≡ eqb (stop_of bytes from) to
  unfolding stop_of
  part_stopped h =
      let run = run_past 0 (drop from bytes) in
      part ∙ rw (le-leb run (to - from) (omega arith)) (eqb_shift run to from ordered)

  pub part_going : to < stop_of bytes from → utf8_of (slice from to bytes) ≡ not (starts (tail ∷ []) (drop to bytes))
  unfolding stop_of
  part_going h =
      let run = run_past 0 (drop from bytes) in
      let e : from + (to - from) ≡ to = omega arith in
      part ∙ rw (lt-leb run (to - from) (omega arith), drop-drop (to - from) from bytes, e) refl

-- ---- where the characters stop

run_le : (left : ℕ) (bytes : List ℕ) → run_past left bytes ≤ length bytes
unfolding run_past
run_le left [] = omega arith
run_le zero (first ∷ rest) = go (leb 1 (char_len (first ∷ rest))) (run_le (char_len (first ∷ rest) - 1) rest)
  where
    go : {n : ℕ} (t : Bool) → n ≤ length rest → cond t (suc n) 0 ≤ suc (length rest)
    go true l = omega arith
    go false l = omega arith
run_le (suc left) (first ∷ rest) = omega (arith, run_le left rest)

pub stop_within : (bytes : List ℕ) (at : ℕ) → at ≤ length bytes → stop_of bytes at ≤ length bytes
unfolding stop_of
stop_within bytes at h = omega (arith, run_le 0 (drop at bytes), length-drop at bytes)

run_skip : (left : ℕ) (bytes : List ℕ) → left ≤ length bytes → run_past left bytes ≡ left + run_past 0 (drop left bytes)
unfolding run_past
run_skip zero bytes h = omega arith
run_skip (suc left) [] h = absurd (not-suc-le-zero h)
run_skip (suc left) (first ∷ rest) h = omega (arith, run_skip left rest (le_of_suc-le-suc h))

-- at the end, at a place where no character starts, and past a character
pub stop_past : (bytes : List ℕ) (at : ℕ) → length bytes ≤ at → stop_of bytes at ≡ at
unfolding stop_of run_past
stop_past bytes at h = rw (drop_of_length-le bytes h) (omega arith)

run_step : (bytes : List ℕ) (len : ℕ) → 0 < length bytes → len ≡ char_len bytes → len ≤ length bytes → run_past 0 bytes ≡ cond (leb 1 len) (len + run_past 0 (drop len bytes)) 0
unfolding run_past
run_step [] len h e l = absurd (not-suc-le-zero h)
run_step (first ∷ rest) zero h e l = rw (← e) refl
run_step (first ∷ rest) (suc more) h e l =
    rw (le-leb 1 (suc more) (omega arith)) (run_one first more rest (sym e) ∙ run_skip (suc more) (first ∷ rest) l)

module _ (bytes : List ℕ) (at len : ℕ) (below : at < length bytes) (is-len : len ≡ char_len (drop at bytes)) where
  step : stop_of bytes at ≡ at + cond (leb 1 len) (len + run_past 0 (drop (at + len) bytes)) 0
  unfolding stop_of
  step =
      let w = char_within bytes at len below is-len in
      rw (← drop-drop len at bytes) (ap (λ (n : ℕ). at + n) (run_step (drop at bytes) len (omega (arith, length-drop at bytes)) is-len (omega (arith, length-drop at bytes))))

  pub stop_here : len ≡ 0 → stop_of bytes at ≡ at
  stop_here e = step ∙ rw e (omega arith)

  pub stop_on : 1 ≤ len → stop_of bytes at ≡ stop_of bytes (at + len)
  unfolding stop_of
  stop_on h = step ∙ rw (le-leb 1 len h) (omega arith)
