-- The grammar of RFC 3629, section 4. `utf8_of` accepts exactly its bytes: `utf8_sound` and `utf8_complete` of proofs/Grammar.antt.
use Rattle.std.specs.Prelude.{ℕ, ◌≤◌}
use mathlib.Core.List.{List, [], ◌∷◌, ◌++◌, Memᴰ}
use Rattle.utf8.specs.Utf8.{Range, table}

-- a byte of each range, in order, and no more
pub data Fits : List Range → List ℕ → Type 0 where
  none : Fits [] []
  byte : {range : Range} {ranges : List Range} {first : ℕ} {rest : List ℕ} → range.0 ≤ first → first ≤ range.1 → Fits ranges rest
      → Fits (range ∷ ranges) (first ∷ rest)

-- UTF8-octets = *( UTF8-char ), where a UTF8-char is bytes that fit a row of the table
pub data Utf8 : List ℕ → Type 0 where
  empty : Utf8 []
  char : {row : List Range} {bytes rest : List ℕ} → Memᴰ row table → Fits row bytes → Utf8 rest → Utf8 (bytes ++ rest)
