-- What is written on a page, which has room for so many bytes and no more.
use Rattle.std.specs.Prelude.{ℕ, ◌+◌, ◌≡◌, Bool, false, cond, List, [], ◌∷◌, ◌++◌, ltb, eqb, length, set}
use Rattle.io.specs.Digits.{last_digits, IsDigitCount}

-- the bytes of the page, and how many of them are written
pub record Page : Type 0 where
  pub all : List ℕ
  pub at : ℕ

abbrev pub page : List ℕ → ℕ → Page
page bytes n = record { all = bytes; at = n }

-- one byte more; what has no room is left out
unfoldable pub with_byte : Page → ℕ → Page
with_byte p b = cond (ltb p.at (length p.all)) (page (set p.all p.at b) (p.at + 1)) p

unfoldable pub with_bytes : Page → List ℕ → Page
with_bytes p [] = p
with_bytes p (b ∷ text) = with_bytes (with_byte p b) text

-- the digits of a number: the fewest, and no fewer than `least`
pub record InBase (base least n : ℕ) (before after : Page) : Type 0 where
  pub count : ℕ
  pub fewest : IsDigitCount base least n count
  pub told : after ≡ with_bytes before (last_digits base count n)

-- two hexadecimal digits for each byte
unfoldable pub hex_of : List ℕ → List ℕ
hex_of [] = []
hex_of (b ∷ text) = last_digits 16 2 b ++ hex_of text

-- a byte after a backslash
abbrev pub marked : ℕ → List ℕ
marked b = 92 ∷ b ∷ []

-- the byte after the backslash: the quote and a backslash themselves, `\n`, `\r` and `\t`; 0 for none
unfoldable pub letter_of : ℕ → ℕ → ℕ
letter_of quote b = cond (eqb b quote) b (cond (eqb b 92) b (cond (eqb b 10) 110 (cond (eqb b 13) 114 (cond (eqb b 9) 116 0))))

-- printable ASCII
unfoldable pub is_printable : ℕ → Bool
is_printable b = cond (ltb b 32) false (ltb b 127)

-- a byte between quotes: after a backslash, as it is where it is printable, else by its number, `\x1f`
unfoldable pub escape_of : ℕ → ℕ → List ℕ
escape_of quote b =
    cond (eqb (letter_of quote b) 0)
    (cond (is_printable b) (b ∷ []) (marked 120 ++ hex_of (b ∷ [])))
    (marked (letter_of quote b))
