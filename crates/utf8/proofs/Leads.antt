-- What a first byte tells: proved of each range of bytes by one computed test, and put to use byte by byte. Assumes nothing.
use mathlib.Core.Path.{◌≡◌, refl, sym, ap, ◌∙◌, subst}
use mathlib.Core.Bool.{Bool, true, false, cond, ◌&&◌, and-eq-true_iff, false≢true}
use mathlib.Core.List.{List, [], ◌∷◌, Memᴰ}
use Prim.Native.Nat.{ℕ, zero, suc, ◌+◌, ◌-◌, ◌≤◌, ◌<◌}
use native.Mathlib.Decide.{dec_lt}
use native.Mathlib.Numerals.{add-one}
use native.Mathlib.Omega.{arith}
use borrow.Author.Tests.{eqb-true, le-leb}
use lib.Dec.{eqb, leb}
use lib.ListN.{length, get_or, drop, replicate}
use lib.Seq.{drop-cons, drop-drop}
use Rattle.std.specs.Prelude.{Option, Some, None}
use Rattle.utf8.specs.Utf8.{Range, tail, table, starts, row_of, char_len}
use Rattle.utf8.specs.Leads.{some_lead, lead_of}
use Rattle.utf8.specs.declared.Lead.{Lead}
use Rattle.utf8.proofs.Chars.{starts_cons, by_row}

-- ---- a range of first bytes

-- the test passes at so many numbers, counted up from one
abbrev passes : (ℕ → Bool) → ℕ → ℕ → Bool
passes test from zero = true
passes test from (suc count) = test from && passes test (suc from) count

at_each : (test : ℕ → Bool) (from count : ℕ) → passes test from count ≡ true → (x : ℕ) → from ≤ x → x < from + count → test x ≡ true
at_each test from zero p x l h = absurd (omega arith)
at_each test from (suc count) p x l h =
    let q = (and-eq-true_iff (test from) (passes test (suc from) count)).0 p in
    go (dec_lt from x) q.0 (λ m. at_each test (suc from) count q.1 x m (omega arith))
  where
    go : Dec (from < x) → test from ≡ true → (from < x → test x ≡ true) → test x ≡ true
    go (yes m) t more = more m
    go (no m) t more =
        let e : from ≡ x = omega arith in
        subst (λ (y : ℕ). test y ≡ true) e t

abbrev same : Option Lead → Option Lead → Bool
same None None = true
same (Some a) (Some b) = eqb a.len b.len && (eqb a.low b.low && eqb a.high b.high)
same _ _ = false

same_lead : (a b : Option Lead) → same a b ≡ true → a ≡ b
same_lead None None t = refl
same_lead (Some a) (Some b) t =
    let p = (and-eq-true_iff (eqb a.len b.len) (eqb a.low b.low && eqb a.high b.high)).0 t in
    let q = (and-eq-true_iff (eqb a.low b.low) (eqb a.high b.high)).0 p.1 in
    let len = eqb-true a.len b.len p.0 in
    let low = eqb-true a.low b.low q.0 in
    let high = eqb-true a.high b.high q.1 in
    λ i. Some (record { len = len i; low = low i; high = high i })
same_lead None (Some b) t = absurd (false≢true t)
same_lead (Some a) None t = absurd (false≢true t)

-- the test that a first byte tells so much
unfoldable pub tells : Option Lead → ℕ → Bool
unfolding lead_of row_of table
tells lead first = same lead (lead_of first)

-- what each byte from low to high tells, by one test that antt computes
pub lead_in : (low high : ℕ) {lead : Option Lead} → passes (tells lead) low (suc high - low) ≡ true → (first : ℕ) → (low ≤ first) × (first ≤ high)
    → lead ≡ lead_of first
unfolding tells
lead_in low high {lead} p first h =
    same_lead lead (lead_of first) (at_each (tells lead) low (suc high - low) p first h.0 (omega arith))

-- ---- the ranges that follow a row's first

-- so many of them: that of the second byte, and tails
abbrev following : ℕ → Range → List Range
following zero second = []
following (suc n) second = second ∷ replicate n tail

tails : (n : ℕ) → replicate n tail ≡ following n tail
tails zero = refl
tails (suc n) = refl

-- from the third on the ranges of a row are tails
abbrev Shaped : List Range → Type 0
Shaped row = drop 1 row ≡ following (length row - 1) (get_or row 1 (0, 0))

abbrev pub Each : (List Range → Type 0) → List (List Range) → Type 0
Each P [] = Unit
Each P (row ∷ rows) = P row × Each P rows

pub each_in : (P : List Range → Type 0) {row : List Range} {rows : List (List Range)} → Memᴰ row rows → Each P rows → P row
each_in P (Memᴰ.head e) each = subst P (sym e) each.0
each_in P (Memᴰ.tail m) each = each_in P m each.1

shaped : Each Shaped table
unfolding table
shaped = (refl, (refl, (refl, (refl, (refl, (refl, (refl, (refl, (refl, tt)))))))))

-- bytes start with their first byte's row exactly if those after the first start with what follows in it
row_starts : (first : ℕ) (rest : List ℕ)
    → starts (row_of table first) (first ∷ rest) ≡ starts (following (length (row_of table first) - 1) (get_or (row_of table first) 1 (0, 0))) rest
unfolding starts
row_starts first rest =
    by_row (λ (row : List Range). starts row (first ∷ rest) ≡ starts (following (length row - 1) (get_or row 1 (0, 0))) rest) first table refl
    (λ range ranges m w. ap (λ (t : Bool). t && starts ranges rest) w ∙ ap (λ (after : List Range). starts after rest) (each_in Shaped m shaped))

-- ---- a character, byte by byte

-- how long the character at a place is that is to have `len` bytes, once `read` of them are right and the next is to be in a range
abbrev pub len_from : List ℕ → ℕ → ℕ → ℕ → Range → ℕ
len_from bytes at len read next = cond (starts (following (len - read) next) (drop (at + read) bytes)) len 0

-- the character at a place, by the row of its first byte
by_first : (bytes : List ℕ) (at : ℕ) → at < length bytes
    → let row = row_of table (get_or bytes at 0) in char_len (drop at bytes) ≡ len_from bytes at (length row) 1 (get_or row 1 (0, 0))
unfolding char_len
by_first bytes at h =
    let first = get_or bytes at 0 in
    let rest = drop (at + 1) bytes in
    let b : drop at bytes ≡ first ∷ rest = rw (add-one, drop-cons bytes at 0) refl in
    ap char_len b ∙ ap (λ (t : Bool). cond t (length (row_of table first)) 0) (row_starts first rest)

-- once the first byte is read
abbrev pub Read : List ℕ → ℕ → Option Lead → Type 0
Read bytes at None = char_len (drop at bytes) ≡ 0
Read bytes at (Some lead) = (1 ≤ lead.len) × (char_len (drop at bytes) ≡ len_from bytes at lead.len 1 (lead.low, lead.high))

pub lead_read : (bytes : List ℕ) (at : ℕ) → at < length bytes → Read bytes at (lead_of (get_or bytes at 0))
unfolding lead_of starts
lead_read bytes at h = go (row_of table (get_or bytes at 0)) (by_first bytes at h)
  where
    go : (row : List Range) → char_len (drop at bytes) ≡ len_from bytes at (length row) 1 (get_or row 1 (0, 0))
        → Read bytes at (cond (leb 1 (length row)) (some_lead (length row) (get_or row 1 (0, 0)).0 (get_or row 1 (0, 0)).1) None)
    go [] e = e
    go (range ∷ ranges) e = rw (le-leb 1 (suc (length ranges)) (omega arith)) (omega arith, e)

module _ (bytes : List ℕ) (at len read : ℕ) (next : Range) where
  next_starts : read < len
      → starts (following (len - read) next) (drop (at + read) bytes)
      ≡ (starts (next ∷ []) (drop (at + read) bytes) && starts (following (len - (read + 1)) tail) (drop (at + (read + 1)) bytes))
  next_starts h =
      let e : len - read ≡ suc (len - (read + 1)) = omega arith in
      let f : at + read + 1 ≡ at + (read + 1) = omega arith in
      rw (e, starts_cons next (replicate (len - (read + 1)) tail), tails, drop-drop 1 (at + read) bytes, f) refl

  -- by the test of the next byte
  pub next_read : read < len → true ≡ starts (next ∷ []) (drop (at + read) bytes)
      → len_from bytes at len read next ≡ len_from bytes at len (read + 1) tail
  next_read h s = rw (next_starts h, ← s) refl

  pub next_wrong : read < len → false ≡ starts (next ∷ []) (drop (at + read) bytes) → len_from bytes at len read next ≡ 0
  next_wrong h s = rw (next_starts h, ← s) refl

  pub all_read : len ≤ read → len_from bytes at len read next ≡ len
  unfolding starts
  all_read h =
      let e : len - read ≡ 0 = omega arith in
      rw e refl
