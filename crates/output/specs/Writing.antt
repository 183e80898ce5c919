-- Writing a value (01 'Output'): what the writers ask and promise.
use Rattle.std.specs.Prelude.{ℕ, suc, ◌-◌, ◌*◌, ◌≡◌, Bool, List, [], ◌∷◌, length, get_or, Result, Ok, Err}
use Rattle.packed.specs.declared.layout.Header.{Header}
use Rattle.packed.specs.declared.image.Image.{Image}
use Rattle.numbers.specs.Words.{word_of}
use Rattle.numbers.specs.Floats.{float_word_of}
use Rattle.rules.specs.declared.Value.{Value}
use Rattle.rules.specs.declared.Value.TheVariants.{Unit as VUnit, Bool as VBool, Char, Unsigned, Signed, Float as VFloat, Text, Bytes, Vec, Tuple, Object}
use Rattle.rules.specs.Store.{head, Store, text_of, count_in, value_in}
use Rattle.rules.specs.Output.{Piece, put, Encoded, bits, nested, full, bytes_for, bool_bit, length_and_bytes, items_from, sorted_entries, entry_pieces, encoded}
use Rattle.rules.specs.Runs.{out_of, value_encoded}
use Rattle.stores.specs.Stores.{store_of}
use Rattle.stores.specs.declared.lent.Shared.{Shared}
use Rattle.stores.specs.Lent.{seen_in}
use Rattle.ordered.specs.Ordered.{key_text}
use Rattle.pouring.specs.declared.Spot.{Spot}
use Rattle.pouring.specs.declared.NoPlace.{NoPlace}
use Rattle.pouring.specs.declared.NoPlace.TheVariants.{Nested, Full}
use Rattle.pouring.specs.Pouring.{Poured, Passed, bits_before}
use Rattle.stores.specs.declared.run.Run.{Run}

module _ (image : List ℕ) (h : Header) (σ : Store) where
  -- what stands before the values within a value, and those: together its pieces
  abbrev pub head_pieces : Value → List Piece
  head_pieces VUnit = put 4 0 ∷ []
  head_pieces (VBool b) = put 4 1 ∷ put 1 (bool_bit b) ∷ []
  head_pieces (Unsigned x) = put 4 2 ∷ put 64 x ∷ []
  head_pieces (Signed z) = put 4 3 ∷ put 64 (word_of z) ∷ []
  head_pieces (VFloat x) = put 4 4 ∷ put 64 (float_word_of x) ∷ []
  head_pieces (Char c) = put 4 5 ∷ put 21 c ∷ []
  head_pieces (Text s l) = put 4 6 ∷ length_and_bytes (text_of image h σ s l)
  head_pieces (Bytes s l) = put 4 7 ∷ length_and_bytes (text_of image h σ s l)
  head_pieces (Vec c) = put 4 8 ∷ put 12 (count_in (get_or σ.cells c (head 0))) ∷ []
  head_pieces (Tuple c) = put 4 9 ∷ put 12 (count_in (get_or σ.cells c (head 0))) ∷ []
  head_pieces (Object c) = put 4 10 ∷ put 12 (length (sorted_entries image h σ c σ.cells)) ∷ []

  abbrev pub item_pieces : ℕ → List Piece
  item_pieces c = items_from image h σ (suc c) (count_in (get_or σ.cells c (head 0)))

  -- of the entry in cell i, and of all entries of an object
  abbrev pub entry_of : ℕ → List ℕ × Value
  entry_of i = (key_text image h σ.cells i, value_in (get_or σ.cells i (head 0)))

  abbrev pub entry_piece : ℕ → List Piece
  entry_piece i = entry_pieces image h σ (entry_of i ∷ [])

  abbrev pub object_pieces : ℕ → List Piece
  object_pieces c = entry_pieces image h σ (sorted_entries image h σ c σ.cells)

-- the encoding of a value, behind so many bits
pub record Encodes (image : List ℕ) (h : Header) (run : Run) (words bytes : List ℕ) (v : Value) (allowance : ℕ) (writing : Bool) (s : Spot) (out out' : List ℕ) (r : Result Spot NoPlace) : Type 0 where
  pub is : Poured writing (bits_before s) (encoded image h (store_of run words bytes) allowance (8 * length out - bits_before s) v) out out' r

-- pieces in which so many values may stand in one another, behind so many bits
pub record Writes (image : List ℕ) (h : Header) (σ : Store) (allowance : ℕ) (writing : Bool) (s : Spot) (ps : List Piece) (out out' : List ℕ) (r : Result Spot NoPlace) : Type 0 where
  pub is : Passed image h σ (encoded image h σ allowance) writing (bits_before s) ps out out' r

-- both of what is passed
abbrev pub ValueWritten : Image → Shared → Value → ℕ → Bool → Spot → List ℕ → List ℕ → Result Spot NoPlace → Type 0
ValueWritten image stores v allowance writing s out out' r = Encodes image.bytes.now image.header stores.run.now stores.words.now stores.bytes.now v allowance writing s out out' r

abbrev pub PiecesWritten : Image → Shared → (List ℕ → Header → Store → List Piece) → ℕ → Bool → Spot → List ℕ → List ℕ → Result Spot NoPlace → Type 0
PiecesWritten image stores ps allowance writing s out out' r =
    Writes image.bytes.now image.header (seen_in stores) allowance writing s (ps image.bytes.now image.header (seen_in stores)) out out' r

-- what was written of an encoding: so many bytes, or nothing and why
abbrev pub written_of : Encoded → Result ℕ NoPlace
written_of (bits bs) = Ok (bytes_for bs)
written_of nested = Err Nested
written_of full = Err Full

pub record Wrote (image : List ℕ) (h : Header) (σ : Store) (v : Value) (out out' : List ℕ) (r : Result ℕ NoPlace) : Type 0 where
  pub told : r ≡ written_of (value_encoded image h out v σ)
  pub left : out' ≡ out_of image h out (value_encoded image h out v σ)
