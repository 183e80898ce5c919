-- UTF-8 as RFC 3629, section 4, defines it: a table of byte sequences, and the test of bytes against it.
use Rattle.std.specs.Prelude.{ℕ, zero, suc, ◌-◌, Bool, true, false, cond, ◌&&◌, List, [], ◌∷◌, leb, length}

-- %xLOW-HIGH: the bytes from LOW to HIGH
abbrev pub Range : Type 0
Range = ℕ × ℕ

abbrev pub within : Range → ℕ → Bool
within range byte = leb range.0 byte && leb byte range.1

-- UTF8-tail = %x80-BF
abbrev pub tail : Range
tail = (0x80, 0xBF)

-- UTF8-char = UTF8-1 / UTF8-2 / UTF8-3 / UTF8-4: a row for each alternative, with a range for each byte
unfoldable pub table : List (List Range)
table =
    -- UTF8-1 = %x00-7F
    ((0x00, 0x7F) ∷ [])
    -- UTF8-2 = %xC2-DF UTF8-tail
    ∷ ((0xC2, 0xDF) ∷ tail ∷ [])
    -- UTF8-3 = %xE0 %xA0-BF UTF8-tail / %xE1-EC 2( UTF8-tail ) /
    --          %xED %x80-9F UTF8-tail / %xEE-EF 2( UTF8-tail )
    ∷ ((0xE0, 0xE0) ∷ (0xA0, 0xBF) ∷ tail ∷ [])
    ∷ ((0xE1, 0xEC) ∷ tail ∷ tail ∷ [])
    ∷ ((0xED, 0xED) ∷ (0x80, 0x9F) ∷ tail ∷ [])
    ∷ ((0xEE, 0xEF) ∷ tail ∷ tail ∷ [])
    -- UTF8-4 = %xF0 %x90-BF 2( UTF8-tail ) / %xF1-F3 3( UTF8-tail ) /
    --          %xF4 %x80-8F 2( UTF8-tail )
    ∷ ((0xF0, 0xF0) ∷ (0x90, 0xBF) ∷ tail ∷ tail ∷ [])
    ∷ ((0xF1, 0xF3) ∷ tail ∷ tail ∷ tail ∷ [])
    ∷ ((0xF4, 0xF4) ∷ (0x80, 0x8F) ∷ tail ∷ tail ∷ [])
    ∷ []

-- the bytes start with a byte of each range, in order
unfoldable pub starts : List Range → List ℕ → Bool
starts [] bytes = true
starts (range ∷ ranges) [] = false
starts (range ∷ ranges) (byte ∷ bytes) = within range byte && starts ranges bytes

-- the row whose first range has the byte, of which there is one at most; no range where there is none
unfoldable pub row_of : List (List Range) → ℕ → List Range
row_of [] first = []
row_of ([] ∷ rows) first = row_of rows first
row_of ((range ∷ ranges) ∷ rows) first = cond (within range first) (range ∷ ranges) (row_of rows first)

-- how many bytes the character has that the bytes start with; 0 where they start with none
unfoldable pub char_len : List ℕ → ℕ
char_len [] = 0
char_len (first ∷ rest) = cond (starts (row_of table first) (first ∷ rest)) (length (row_of table first)) 0

-- UTF8-octets = *( UTF8-char ): past so many bytes, which are left of a character, there stand characters, one after the other
unfoldable pub utf8_past : ℕ → List ℕ → Bool
utf8_past zero [] = true
utf8_past (suc left) [] = false
utf8_past zero (byte ∷ bytes) = leb 1 (char_len (byte ∷ bytes)) && utf8_past (char_len (byte ∷ bytes) - 1) bytes
utf8_past (suc left) (byte ∷ bytes) = utf8_past left bytes

unfoldable pub utf8_of : List ℕ → Bool
utf8_of bytes = utf8_past 0 bytes
