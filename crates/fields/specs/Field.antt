-- What a field of bit-packed bytes is. Bits count from 0, the most significant bit of the first byte first; past the end they are 0.
use Rattle.std.specs.Prelude.{ℕ, zero, suc, ◌+◌, ◌-◌, ◌*◌, ◌/◌, ◌%◌, ◌^◌, ◌≤◌, ◌<◌, ◌≡◌, ◌⊎◌, Bool, true, false, ◌&&◌, cond, List, leb, ltb, get_or, length, Option, Some, None}

-- bit i of the bytes
unfoldable pub bit_at : List ℕ → ℕ → ℕ
bit_at bytes i = get_or bytes (i / 8) 0 / 2 ^ (7 - i % 8) % 2

-- the number that `width` bits from bit `bit` on make, the most significant first
unfoldable pub field_of : List ℕ → ℕ → ℕ → ℕ
field_of bytes bit zero = 0
field_of bytes bit (suc w) = field_of bytes bit w * 2 + bit_at bytes (bit + w)

-- the field has at most 64 bits, and the bytes have them all
unfoldable pub is_within : List ℕ → ℕ → ℕ → Bool
is_within bytes bit width = leb width 64 && leb (bit + width) (8 * length bytes)

-- what a read gives
unfoldable pub read_of : List ℕ → ℕ → ℕ → Option ℕ
read_of bytes bit width = cond (is_within bytes bit width) (Some (field_of bytes bit width)) None

-- `after` is `before` with `value` in the field of `width` bits at `bit`, and every other bit as it was
pub record Put (before after : List ℕ) (bit width value : ℕ) : Type 0 where
  pub here : field_of after bit width ≡ value
  pub others : (i : ℕ) → (i < bit) ⊎ (bit + width ≤ i) → bit_at after i ≡ bit_at before i
  pub long : length after ≡ length before

-- what a write leaves, and whether it wrote
pub record Wrote (before after : List ℕ) (bit width value : ℕ) (done : Bool) : Type 0 where
  pub told : done ≡ is_within before bit width && ltb value (2 ^ width)
  pub put : done ≡ true → Put before after bit width value
  pub kept : done ≡ false → after ≡ before

-- the byte y is x with v for the t bits that have s bits after them
pub record Mixed (x s t v y : ℕ) : Type 0 where
  pub here : y / 2 ^ s % 2 ^ t ≡ v
  pub others : (j : ℕ) → (j < s) ⊎ (s + t ≤ j) → y / 2 ^ j % 2 ≡ x / 2 ^ j % 2
