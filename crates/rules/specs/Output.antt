-- The encoding of a value as bits (01 'Output').
use Rattle.std.specs.Prelude.{ℕ, zero, suc, ◌+◌, ◌-◌, ◌*◌, ◌/◌, ◌%◌, ◌^◌, Bool, true, false, ◌&&◌, cond, List, [], ◌∷◌, ◌++◌, leb, ltb, eqb, length, get_or, drop}
use Rattle.packed.specs.declared.layout.Header.{Header}
use Rattle.numbers.specs.Words.{word_of}
use Rattle.numbers.specs.Floats.{float_word_of}
use Rattle.rules.specs.declared.Value.{Value}
use Rattle.rules.specs.declared.Value.TheVariants.{Unit as VUnit, Bool as VBool, Char, Unsigned, Signed, Float as VFloat, Text, Bytes, Vec, Tuple, Object}
use Rattle.rules.specs.Store.{Cell, head, item, entry, Store, text_of, part_text, count_in, value_in}

-- `width` bits of a number, the most significant first
unfoldable pub bits_of : ℕ → ℕ → List ℕ
bits_of zero x = []
bits_of (suc w) x = x / 2 ^ w % 2 ∷ bits_of w x

-- what stands in the encoding of a value: a number of some width, or a value within it
pub data Piece : Type 0 where
  put : ℕ → ℕ → Piece
  within : Value → Piece

abbrev pub byte_pieces : List ℕ → List Piece
byte_pieces [] = []
byte_pieces (b ∷ bs) = put 8 b ∷ byte_pieces bs

-- "a 16-bit length and the bytes"
abbrev pub length_and_bytes : List ℕ → List Piece
length_and_bytes bs = put 16 (length bs) ∷ byte_pieces bs

abbrev pub bool_bit : Bool → ℕ
bool_bit true = 1
bool_bit false = 0

-- one byte string before another, by their bytes
abbrev pub ascending : List ℕ → List ℕ → Bool
ascending [] ys = true
ascending (x ∷ xs) [] = false
ascending (x ∷ xs) (y ∷ ys) = cond (ltb x y) true (eqb x y && ascending xs ys)

-- the bits; or the first to happen "in writing order" of nesting too deep and lack of room
pub data Encoded : Type 0 where
  bits : List ℕ → Encoded
  nested : Encoded
  full : Encoded

abbrev pub after : List ℕ → Encoded → Encoded
after bs (bits cs) = bits (bs ++ cs)
after bs nested = nested
after bs full = full

abbrev pub and_then : Encoded → (List ℕ → Encoded) → Encoded
and_then (bits bs) on = after bs (on bs)
and_then nested on = nested
and_then full on = full

module _ (image : List ℕ) (h : Header) (σ : Store) where
  -- the values of an owner's items
  abbrev pub items_from : ℕ → ℕ → List Piece
  items_from at zero = []
  items_from at (suc n) = within (value_in (get_or σ.cells at (head 0))) ∷ items_from (suc at) n

  -- the entries of an object, by ascending key bytes
  unfoldable pub inserted : List ℕ → Value → List (List ℕ × Value) → List (List ℕ × Value)
  inserted key v [] = (key, v) ∷ []
  inserted key v (e ∷ es) = cond (ascending key e.0) ((key, v) ∷ e ∷ es) (e ∷ inserted key v es)

  unfoldable pub sorted_entries : ℕ → List Cell → List (List ℕ × Value)
  sorted_entries owner [] = []
  sorted_entries owner (head n ∷ cs) = sorted_entries owner cs
  sorted_entries owner (item o v ∷ cs) = sorted_entries owner cs
  sorted_entries owner (entry o k v ∷ cs) =
      cond (eqb o owner) (inserted (part_text image h k) v (sorted_entries owner cs)) (sorted_entries owner cs)

  abbrev pub entry_pieces : List (List ℕ × Value) → List Piece
  entry_pieces [] = []
  entry_pieces (e ∷ es) = length_and_bytes e.0 ++ within e.1 ∷ entry_pieces es

  -- "A value is kind 4 bits, then as in literals: bool 1 bit; 2, 3, 4 in 64; char 21; text and bytes a 16-bit length and the bytes; 8 vec and 9
  -- tuple a 12-bit count and items; 10 object a 12-bit count and entries by ascending key bytes (16-bit length, bytes, value)".
  -- "Every NaN is 7FF8000000000000"
  unfoldable pub pieces : Value → List Piece
  pieces VUnit = put 4 0 ∷ []
  pieces (VBool b) = put 4 1 ∷ put 1 (bool_bit b) ∷ []
  pieces (Unsigned x) = put 4 2 ∷ put 64 x ∷ []
  pieces (Signed z) = put 4 3 ∷ put 64 (word_of z) ∷ []
  pieces (VFloat x) = put 4 4 ∷ put 64 (float_word_of x) ∷ []
  pieces (Char c) = put 4 5 ∷ put 21 c ∷ []
  pieces (Text s l) = put 4 6 ∷ length_and_bytes (text_of image h σ s l)
  pieces (Bytes s l) = put 4 7 ∷ length_and_bytes (text_of image h σ s l)
  pieces (Vec c) = let n = count_in (get_or σ.cells c (head 0)) in put 4 8 ∷ put 12 n ∷ items_from (suc c) n
  pieces (Tuple c) = let n = count_in (get_or σ.cells c (head 0)) in put 4 9 ∷ put 12 n ∷ items_from (suc c) n
  pieces (Object c) = let es = sorted_entries c σ.cells in put 4 10 ∷ put 12 (length es) ∷ entry_pieces es

  -- pieces one after the other into so many bits of room
  unfoldable pub written_by : (ℕ → Value → Encoded) → ℕ → List Piece → Encoded
  written_by write room [] = bits []
  written_by write room (put w x ∷ ps) = cond (leb w room) (after (bits_of w x) (written_by write (room - w) ps)) full
  written_by write room (within v ∷ ps) = and_then (write room v) (λ bs. written_by write (room - length bs) ps)

  -- "nesting of 65 is 26 (the whole value is 1)": so many values may stand in one another
  unfoldable pub encoded : ℕ → ℕ → Value → Encoded
  encoded zero room v = nested
  encoded (suc allowance) room v = written_by (encoded allowance) room (pieces v)

-- "Zero bits fill the last byte"
abbrev pub byte_of : List ℕ → ℕ
byte_of bs =
    get_or bs 0 0 * 128 + get_or bs 1 0 * 64 + get_or bs 2 0 * 32 + get_or bs 3 0 * 16 + get_or bs 4 0 * 8 + get_or bs 5 0 * 4 + get_or bs 6 0 * 2 + get_or bs 7 0

unfoldable pub packed : ℕ → List ℕ → List ℕ
packed zero bs = []
packed (suc n) bs = byte_of bs ∷ packed n (drop 8 bs)

abbrev pub bytes_for : List ℕ → ℕ
bytes_for bs = (length bs + 7) / 8
