-- The characters that stand one after the other from a place on, and where they stop.
use Rattle.std.specs.Prelude.{ℕ, zero, suc, ◌+◌, ◌-◌, ◌/◌, ◌%◌, ◌≤◌, ◌<◌, ◌≡◌, cond, List, [], ◌∷◌, leb, length, drop, get_or}
use Rattle.utf8.specs.Utf8.{char_len}

-- how many bytes they take, past so many that are left of a character
unfoldable pub run_past : ℕ → List ℕ → ℕ
run_past left [] = 0
run_past zero (byte ∷ bytes) = cond (leb 1 (char_len (byte ∷ bytes))) (suc (run_past (char_len (byte ∷ bytes) - 1) bytes)) 0
run_past (suc left) (byte ∷ bytes) = suc (run_past left bytes)

-- the first place from this one on, character by character, at which no character starts
unfoldable pub stop_of : List ℕ → ℕ → ℕ
stop_of bytes at = at + run_past 0 (drop at bytes)

-- stops of these bytes: an entry holds a place and, in its low 16 bits, the place's stop
pub record Stops (bytes entries : List ℕ) : Type 0 where
  pub short : length bytes ≤ 65535
  pub right : (i : ℕ) → i < 1024 → get_or entries i 0 % 65536 ≡ stop_of bytes (get_or entries i 0 / 65536)
