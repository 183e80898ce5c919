-- The test is the grammar: `utf8_of` accepts exactly the bytes of `Utf8`. Assumes nothing.
use mathlib.Core.Path.{◌≡◌, refl, sym, ap, ap₂, ◌∙◌, subst}
use mathlib.Core.Bool.{Bool, true, false, cond, ◌&&◌, and-false, and-eq-true_iff, false≢true}
use mathlib.Core.List.{List, [], ◌∷◌, ◌++◌, Memᴰ}
use Prim.Native.Nat.{ℕ, zero, suc, ◌≤◌, ◌<◌}
use native.Mathlib.Nat.{not-suc-le-zero, le_refl}
use native.Mathlib.Omega.{arith}
use borrow.Author.Tests.{leb-true, le-leb, lt-leb, ltb-true}
use lib.Dec.{leb, ltb}
use lib.ListN.{length, take, drop, take-append-drop, length-drop}
use lib.Seq.{drop_at}
use Rattle.utf8.specs.Utf8.{Range, within, table, starts, row_of, char_len, utf8_of}
use Rattle.utf8.specs.Grammar.{Fits, Utf8, none, byte, empty, char}
use Rattle.utf8.proofs.Chars.{by_row, utf8_none, utf8_step}

-- ---- what the test accepts is in the grammar

fits : (row : List Range) (bytes : List ℕ) → starts row bytes ≡ true → Fits row (take (length row) bytes)
unfolding starts
fits [] bytes s = none
fits (range ∷ ranges) [] s = absurd (false≢true s)
fits (range ∷ ranges) (first ∷ rest) s =
    let p = (and-eq-true_iff (within range first) (starts ranges rest)).0 s in
    let q = (and-eq-true_iff (leb range.0 first) (leb first range.1)).0 p.0 in
    byte (leb-true range.0 first q.0) (leb-true first range.1 q.1) (fits ranges rest p.1)

-- a row of the table that the bytes start with, as long as their character
record Found (bytes : List ℕ) : Type 0 where
  row : List Range
  in_table : Memᴰ row table
  begins : starts row bytes ≡ true
  long : char_len bytes ≡ length row

found_in : (row : List Range) (bytes : List ℕ) → (leb 1 (length row) ≡ true → Memᴰ row table) → (t : Bool) → starts row bytes ≡ t
    → char_len bytes ≡ cond t (length row) 0 → leb 1 (cond t (length row) 0) ≡ true → Found bytes
found_in row bytes m true s e l = record { row = row; in_table = m l; begins = s; long = e }
found_in row bytes m false s e l = absurd (false≢true l)

found : (first : ℕ) (rest : List ℕ) → leb 1 (char_len (first ∷ rest)) ≡ true → Found (first ∷ rest)
unfolding char_len
found first rest l =
    let row = row_of table first in
    let m = by_row (λ (r : List Range). leb 1 (length r) ≡ true → Memᴰ r table) first table (λ z. absurd (false≢true z)) (λ range ranges m w z. m) in
    found_in row (first ∷ rest) m (starts row (first ∷ rest)) refl refl l

-- by induction on a bound of the length
sound_below : (bound : ℕ) (bytes : List ℕ) → length bytes ≤ bound → utf8_of bytes ≡ true → Utf8 bytes
sound_below zero [] h u = empty
sound_below zero (first ∷ rest) h u = absurd (not-suc-le-zero h)
sound_below (suc bound) [] h u = empty
sound_below (suc bound) (first ∷ rest) h u =
    let bytes = first ∷ rest in
    let n = char_len bytes in
    let p = (and-eq-true_iff (leb 1 n) (utf8_of (drop n bytes))).0 (sym (utf8_step bytes (omega arith)) ∙ u) in
    let f = found first rest p.0 in
    let l : length (drop n bytes) ≤ bound = omega (arith, length-drop n bytes, leb-true 1 n p.0) in
    subst Utf8 (take-append-drop n bytes)
    (char f.in_table (subst (λ (k : ℕ). Fits f.row (take k bytes)) (sym f.long) (fits f.row bytes f.begins))
    (sound_below bound (drop n bytes) l p.1))

pub utf8_sound : (bytes : List ℕ) → utf8_of bytes ≡ true → Utf8 bytes
utf8_sound bytes u = sound_below (length bytes) bytes (le_refl (length bytes)) u

-- ---- what is in the grammar the test accepts

begins : {row : List Range} {bytes : List ℕ} (rest : List ℕ) → Fits row bytes → starts row (bytes ++ rest) ≡ true
unfolding starts
begins rest none = refl
begins rest (byte {range = r} {ranges = rs} {first = x} {rest = xs} lo hi f) =
    ap₂ (λ (t u : Bool). t && u && starts rs (xs ++ rest)) (le-leb r.0 x lo) (le-leb x r.1 hi) ∙ begins rest f

as_long : {row : List Range} {bytes : List ℕ} → Fits row bytes → length bytes ≡ length row
as_long none = refl
as_long (byte lo hi f) = ap suc (as_long f)

-- the first range of a row ends below that of another
abbrev below : List Range → List Range → Bool
below [] other = true
below (range ∷ ranges) [] = true
below (range ∷ ranges) (other ∷ others) = ltb range.1 other.0

abbrev below_all : List Range → List (List Range) → Bool
below_all row [] = true
below_all row (other ∷ others) = below row other && below_all row others

abbrev ascending : List (List Range) → Bool
ascending [] = true
ascending (row ∷ rows) = below_all row rows && ascending rows

below_in : (row : List Range) {other : List Range} {rows : List (List Range)} → Memᴰ other rows → below_all row rows ≡ true → below row other ≡ true
below_in row (Memᴰ.head {x = x} {xs = xs} e) b = ap (below row) e ∙ ((and-eq-true_iff (below row x) (below_all row xs)).0 b).0
below_in row (Memᴰ.tail {x = x} {xs = xs} m) b = below_in row m ((and-eq-true_iff (below row x) (below_all row xs)).0 b).1

above : (range : Range) (first : ℕ) → range.1 < first → within range first ≡ false
above range first l = rw (lt-leb first range.1 l, and-false (leb range.0 first)) refl

-- in a table whose first ranges ascend, the row whose first range has a byte is the byte's row
row_is : (range : Range) (ranges : List Range) {rows : List (List Range)} (first : ℕ) → Memᴰ (range ∷ ranges) rows → ascending rows ≡ true
    → range.0 ≤ first → first ≤ range.1 → row_of rows first ≡ range ∷ ranges
unfolding row_of
row_is range ranges first (Memᴰ.head {x = x} {xs = xs} e) a lo hi =
    ap (λ (row : List Range). row_of (row ∷ xs) first) (sym e) ∙ rw (le-leb range.0 first lo, le-leb first range.1 hi) refl
row_is range ranges first (Memᴰ.tail {x = []} {xs = xs} m) a lo hi =
    row_is range ranges first m ((and-eq-true_iff (below_all [] xs) (ascending xs)).0 a).1 lo hi
row_is range ranges first (Memᴰ.tail {x = other ∷ others} {xs = xs} m) a lo hi =
    let p = (and-eq-true_iff (below_all (other ∷ others) xs) (ascending xs)).0 a in
    let l : other.1 < first = omega (arith, ltb-true other.1 range.0 (below_in (other ∷ others) m p.0)) in
    ap (λ (t : Bool). cond t (other ∷ others) (row_of xs first)) (above other first l) ∙ row_is range ranges first m p.1 lo hi

complete_char : {row : List Range} {bytes : List ℕ} (rest : List ℕ) → Memᴰ row table → Fits row bytes → utf8_of rest ≡ true
    → utf8_of (bytes ++ rest) ≡ true
unfolding char_len table
complete_char rest m none u = u
complete_char rest m (byte {range = range} {ranges = ranges} {first = first} {rest = more} lo hi f) u =
    let row = range ∷ ranges in
    let bytes = first ∷ more in
    let c : Fits row bytes = byte lo hi f in
    let e : char_len (bytes ++ rest) ≡ length row = rw (row_is range ranges first m refl lo hi, begins rest c) refl in
    utf8_step (bytes ++ rest) (omega arith)
    ∙ rw (e, le-leb 1 (length row) (omega arith), drop_at bytes rest (length row) (as_long c)) u

pub utf8_complete : {bytes : List ℕ} → Utf8 bytes → utf8_of bytes ≡ true
utf8_complete empty = utf8_none
utf8_complete (char {rest = rest} m f u) = complete_char rest m f (utf8_complete u)
