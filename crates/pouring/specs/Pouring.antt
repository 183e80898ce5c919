-- Bits poured into an output, one piece after the other (01 'Output').
use Rattle.std.specs.Prelude.{ℕ, ◌+◌, ◌-◌, ◌*◌, ◌/◌, ◌%◌, ◌^◌, ◌≡◌, ◌≤◌, ◌<◌, Bool, true, false, List, [], ◌∷◌, ◌++◌, length, drop, Result, Ok, Err}
use Rattle.packed.specs.declared.layout.Header.{Header}
use Rattle.rules.specs.declared.Value.{Value}
use Rattle.rules.specs.Store.{Store}
use Rattle.rules.specs.Output.{Piece, Encoded, bits, nested, full, bits_of, written_by, packed, bytes_for}
use Rattle.pouring.specs.declared.Spot.{Spot}
use Rattle.pouring.specs.declared.NoPlace.{NoPlace}
use Rattle.pouring.specs.declared.NoPlace.TheVariants.{Nested, Full}

-- what stands in the output once bits are poured into it: "Zero bits fill the last byte", "Bytes past the length stay"
abbrev pub poured : List ℕ → List ℕ → List ℕ
poured found bs = packed (bytes_for bs) bs ++ drop (bytes_for bs) found

-- where p bits were poured, more are
pub record Pours (p : ℕ) (bs out out' : List ℕ) : Type 0 where
  pub after : (found before : List ℕ) → length before ≡ p → out ≡ poured found before → out' ≡ poured found (before ++ bs)
  pub long : length out' ≡ length out

-- how many bits stand before a place
abbrev pub bits_before : Spot → ℕ
bits_before s = 8 * s.bytes + s.bits

-- a place in an output: whole bytes, and bits of the next
pub record IsPlace (s : Spot) (out : List ℕ) : Type 0 where
  pub small : s.bits < 8
  pub within : bits_before s ≤ 8 * length out

-- the place behind p bits: whole bytes, and bits of the next
abbrev pub spot_at : ℕ → Spot
spot_at p = record { bytes = p / 8; bits = p % 8 }

-- the place behind p bits and an encoding, or why it has none
abbrev pub spot_of : ℕ → Encoded → Result Spot NoPlace
spot_of p (bits bs) = Ok (spot_at (p + length bs))
spot_of p nested = Err Nested
spot_of p full = Err Full

-- an encoding went through behind p bits: it was written, or only measured
pub record Poured (writing : Bool) (p : ℕ) (e : Encoded) (out out' : List ℕ) (r : Result Spot NoPlace) : Type 0 where
  pub told : r ≡ spot_of p e
  pub written : writing ≡ true → (bs : List ℕ) → e ≡ bits bs → Pours p bs out out'
  pub kept : writing ≡ false → out' ≡ out
  pub long : length out' ≡ length out

-- the pieces of a value went through, into the room that the output has, by a way to write the values within it
pub record Passed (image : List ℕ) (h : Header) (σ : Store) (write : ℕ → Value → Encoded) (writing : Bool) (p : ℕ) (ps : List Piece) (out out' : List ℕ) (r : Result Spot NoPlace) : Type 0 where
  pub is : Poured writing p (written_by image h σ write (8 * length out - p) ps) out out' r

-- the same for pieces that hold no value, whatever is written within
pub record Puts (writing : Bool) (p : ℕ) (ps : List Piece) (out out' : List ℕ) (r : Result Spot NoPlace) : Type 0 where
  pub is : (image : List ℕ) (h : Header) (σ : Store) (write : ℕ → Value → Encoded) → Passed image h σ write writing p ps out out' r

-- "zero bits fill the last byte": the byte keeps its first bits, has a number of some width after them, and then zeros
abbrev pub filled : ℕ → ℕ → ℕ → ℕ → ℕ
filled old used width x = old / 2 ^ (8 - used) * 2 ^ (8 - used) + x * 2 ^ (8 - used - width)

-- the bits of bytes
abbrev pub byte_bits : List ℕ → List ℕ
byte_bits [] = []
byte_bits (b ∷ bs) = bits_of 8 b ++ byte_bits bs
