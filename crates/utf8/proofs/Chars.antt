-- The laws of the test: of ranges that bytes start with, of a first byte's row, of a character, and of the characters after it.
-- Assumes nothing.
use mathlib.Core.Path.{◌≡◌, refl, sym, ap}
use mathlib.Core.Bool.{Bool, true, false, cond, ◌&&◌, and-true, and-eq-true_iff, false≢true}
use mathlib.Core.List.{List, [], ◌∷◌, Memᴰ}
use Prim.Native.Nat.{ℕ, zero, suc, ◌+◌, ◌-◌, ◌≤◌, ◌<◌}
use native.Mathlib.Nat.{not-suc-le-zero, le_of_suc-le-suc}
use native.Mathlib.Numerals.{sub-one}
use native.Mathlib.Omega.{arith}
use borrow.Author.Tests.{le-leb}
use lib.Dec.{leb}
use lib.ListN.{length, drop, length-drop}
use Rattle.utf8.specs.Utf8.{Range, within, table, starts, row_of, char_len, utf8_past, utf8_of}

-- ---- ranges that bytes start with

pub starts_long : (ranges : List Range) (bytes : List ℕ) → starts ranges bytes ≡ true → length ranges ≤ length bytes
unfolding starts
starts_long [] bytes s = omega arith
starts_long (range ∷ ranges) [] s = absurd (false≢true s)
starts_long (range ∷ ranges) (first ∷ rest) s =
    omega (arith, starts_long ranges rest ((and-eq-true_iff (within range first) (starts ranges rest)).0 s).1)

-- the first range by itself, and the others on the bytes after the first
pub starts_cons : (range : Range) (ranges : List Range) (bytes : List ℕ)
    → starts (range ∷ ranges) bytes ≡ (starts (range ∷ []) bytes && starts ranges (drop 1 bytes))
unfolding starts
starts_cons range ranges [] = refl
starts_cons range ranges (first ∷ rest) = ap (λ (t : Bool). t && starts ranges rest) (sym (and-true (within range first)))

-- ---- the row of a first byte

-- what holds of no range, and of each row whose first range has the byte, holds of the byte's row
pub by_row : (P : List Range → Type 0) (first : ℕ) (rows : List (List Range)) → P []
    → ((range : Range) (ranges : List Range) → Memᴰ (range ∷ ranges) rows → within range first ≡ true → P (range ∷ ranges)) → P (row_of rows first)
unfolding row_of
by_row P first [] none each = none
by_row P first ([] ∷ rows) none each = by_row P first rows none (λ range ranges m w. each range ranges (Memᴰ.tail m) w)
by_row P first ((range ∷ ranges) ∷ rows) none each =
    go (within range first) refl (by_row P first rows none (λ other others m w. each other others (Memᴰ.tail m) w))
  where
    go : (t : Bool) → within range first ≡ t → P (row_of rows first) → P (cond t (range ∷ ranges) (row_of rows first))
    go true w more = each range ranges (Memᴰ.head refl) w
    go false w more = more

-- ---- a character

char_len_le : (bytes : List ℕ) → char_len bytes ≤ length bytes
unfolding char_len
char_len_le [] = omega arith
char_len_le (first ∷ rest) = go (row_of table first) (starts (row_of table first) (first ∷ rest)) refl
  where
    go : (row : List Range) (t : Bool) → starts row (first ∷ rest) ≡ t → cond t (length row) 0 ≤ suc (length rest)
    go row true s = starts_long row (first ∷ rest) s
    go row false s = omega arith

-- ---- characters one after the other

pub utf8_none : utf8_of [] ≡ true
unfolding utf8_of utf8_past
utf8_none = refl

skip : (left : ℕ) (bytes : List ℕ) → left ≤ length bytes → utf8_past left bytes ≡ utf8_past 0 (drop left bytes)
unfolding utf8_past
skip zero bytes h = refl
skip (suc left) [] h = absurd (not-suc-le-zero h)
skip (suc left) (first ∷ rest) h = skip left rest (le_of_suc-le-suc h)

-- bytes are UTF-8 exactly if they start with a character and the bytes after it are UTF-8
pub utf8_step : (bytes : List ℕ) → 0 < length bytes → utf8_of bytes ≡ (leb 1 (char_len bytes) && utf8_of (drop (char_len bytes) bytes))
unfolding utf8_of utf8_past
utf8_step [] h = absurd (not-suc-le-zero h)
utf8_step (first ∷ rest) h = go (char_len (first ∷ rest)) (char_len_le (first ∷ rest))
  where
    go : (n : ℕ) → n ≤ suc (length rest) → (leb 1 n && utf8_past (n - 1) rest) ≡ (leb 1 n && utf8_past 0 (drop n (first ∷ rest)))
    go zero l = refl
    go (suc n) l = rw (le-leb 1 (suc n) (omega arith), sub-one (suc n)) (skip n rest (le_of_suc-le-suc l))

pub char_within : (bytes : List ℕ) (at len : ℕ) → at < length bytes → len ≡ char_len (drop at bytes) → at + len ≤ length bytes
char_within bytes at len below is-len = omega (arith, char_len_le (drop at bytes), length-drop at bytes)
