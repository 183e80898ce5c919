-- The laws of `field_of`, each once for every width. Assumes nothing.
use mathlib.Core.Path.{◌≡◌, refl, sym, ap, ap₂, ◌∙◌, subst}
use mathlib.Core.List.{List}
use Prim.Native.Nat.{ℕ, zero, suc, ◌+◌, ◌-◌, ◌*◌, ◌/◌, ◌%◌, ◌^◌, ◌≤◌, ◌<◌}
use native.Mathlib.Nat.{mod-lt, add-zero, add-suc, pow-suc, add_assoc, mod-eq_of_lt, zero-lt-suc, le_trans, lt_of_lt_of_le}
use native.Mathlib.Omega.{arith}
use native.Mathlib.Numerals.{add-one}
use lib.ListN.{length, get_or}
use lib.Bits.{bit_or, or_shifted}
use lib.Pow.{high, low, shr-shr, shl_lt, pow-add, mod-pow-add}
use borrow.Author.Tests.{leb-true}
use lib.Dec.{leb}
use mathlib.Core.Bool.{true}
use Rattle.fields.specs.Field.{bit_at, field_of, is_within}
use Rattle.fields.proofs.Tests.{and_both}

pub bit_below : (l : List ℕ) (i : ℕ) → bit_at l i < 2
unfolding bit_at
bit_below l i = mod-lt _ (zero-lt-suc 1)

-- a field is below 2 ^ width
pub field_below : (l : List ℕ) (i w : ℕ) → field_of l i w < 2 ^ w
unfolding field_of
field_below l i zero = omega arith
field_below l i (suc w) = omega (arith, field_below l i w, bit_below l (i + w))

-- a field of a + b bits is the field of its first a bits, times 2 ^ b, and the field of the b bits after them
pub field_split : (l : List ℕ) (i a b : ℕ) → field_of l i (a + b) ≡ field_of l i a * 2 ^ b + field_of l (i + a) b
unfolding field_of
field_split l i a zero = rw add-zero (omega arith)
field_split l i a (suc b) = rw (add-suc, pow-suc) (omega (arith, field_split l i a b, ap (bit_at l) (add_assoc i a b)))

-- so of a word w that is a whole record, shifting and masking gives a field of the record
pub field_of_lem : (l : List ℕ) (i a w b : ℕ) → field_of l i (a + w + b) / 2 ^ b % 2 ^ w ≡ field_of l (i + a) w
field_of_lem l i a w b =
    ap (λ (n : ℕ). n / 2 ^ b % 2 ^ w) (field_split l i (a + w) b)
    ∙ ap (λ (n : ℕ). n % 2 ^ w) (high (field_of l i (a + w)) b (field_below l (i + (a + w)) b))
    ∙ ap (λ (n : ℕ). n % 2 ^ w) (field_split l i a w)
    ∙ low (field_of l i a) w (field_below l (i + a) w)

-- two lists whose bits in a range are the same have the same field there
pub field_same : (k l : List ℕ) (i w : ℕ) → ((j : ℕ) → i ≤ j → j < i + w → bit_at k j ≡ bit_at l j) → field_of k i w ≡ field_of l i w
unfolding field_of
field_same k l i zero h = refl
field_same k l i (suc w) h =
    ap₂ (λ (a b : ℕ). a * 2 + b) (field_same k l i w (λ j p q. h j p (omega arith))) (h (i + w) (omega arith) (omega arith))

-- a bit by the byte that it lies in
pub bit_in : (l : List ℕ) (k q : ℕ) → q < 8 → bit_at l (8 * k + q) ≡ get_or l k 0 / 2 ^ (7 - q) % 2
unfolding bit_at
bit_in l k q h =
    let d : (8 * k + q) / 8 ≡ k = omega arith in
    let m : (8 * k + q) % 8 ≡ q = omega arith in
    ap₂ (λ (a b : ℕ). get_or l a 0 / 2 ^ (7 - b) % 2) d m

-- t digits from s on, of which the last is digit s
digits_suc : (n s t : ℕ) → n / 2 ^ s % 2 ^ suc t ≡ (n / 2 ^ suc s % 2 ^ t) * 2 + n / 2 ^ s % 2
digits_suc n s t =
    ap (λ (k : ℕ). n / 2 ^ s % 2 ^ k) (sym (add-one t))
    ∙ mod-pow-add (n / 2 ^ s) t 1
    ∙ ap (λ (k : ℕ). (k % 2 ^ t) * 2 + n / 2 ^ s % 2) (shr-shr n s 1 ∙ ap (λ (k : ℕ). n / 2 ^ k) (add-one s))

-- a field within one byte: r bits before it and s bits after it
pub in_byte : (l : List ℕ) (k r t s : ℕ) → r + t + s ≡ 8 → field_of l (8 * k + r) t ≡ get_or l k 0 / 2 ^ s % 2 ^ t
unfolding field_of
in_byte l k r zero s e = sym (native.Mathlib.Nat.mod-one (get_or l k 0 / 2 ^ s))
in_byte l k r (suc t) s e =
    let at : 8 * k + r + t ≡ 8 * k + (r + t) = omega arith in
    let last : 7 - (r + t) ≡ s = omega arith in
    ap₂ (λ (a b : ℕ). a * 2 + b) (in_byte l k r t (suc s) (omega arith))
    (ap (bit_at l) at ∙ bit_in l k (r + t) (omega arith) ∙ ap (λ (j : ℕ). get_or l k 0 / 2 ^ j % 2) last)
    ∙ sym (digits_suc (get_or l k 0) s t)

-- a field of 8 bits at a byte's place is the byte
pub field_byte : (l : List ℕ) (k : ℕ) → get_or l k 0 < 256 → field_of l (8 * k) 8 ≡ get_or l k 0
field_byte l k h = ap (λ (i : ℕ). field_of l i 8) (sym (add-zero (8 * k))) ∙ in_byte l k 0 8 0 refl ∙ (omega arith)

-- n bytes from byte k, the most significant first
unfoldable pub be : List ℕ → ℕ → ℕ → ℕ
be l k zero = 0
be l k (suc n) = be l k n * 256 + get_or l (k + n) 0

-- they are the field of their bits, however many they are
pub field_be : (l : List ℕ) → ((i : ℕ) → get_or l i 0 < 256) → (k n : ℕ) → field_of l (8 * k) (8 * n) ≡ be l k n
unfolding be field_of
field_be l h k zero = refl
field_be l h k (suc n) =
    let e : 8 * suc n ≡ 8 * n + 8 = omega arith in
    let f : 8 * k + 8 * n ≡ 8 * (k + n) = omega arith in
    ap (field_of l (8 * k)) e ∙ field_split l (8 * k) (8 * n) 8
    ∙ ap₂ (λ (a b : ℕ). a * 256 + b) (field_be l h k n) (ap (λ (i : ℕ). field_of l i 8) f ∙ field_byte l (k + n) (h (k + n)))

-- two fields that stand one after the other, the first of m bytes, make one
pub join : (l : List ℕ) (k m b x y : ℕ) → x ≡ field_of l (8 * k) (8 * m) → y ≡ field_of l (8 * (k + m)) b → x * 2 ^ b + y ≡ field_of l (8 * k) (8 * m + b)
join l k m b x y p q =
    let e : 8 * (k + m) ≡ 8 * k + 8 * m = omega arith in
    ap₂ (λ (u v : ℕ). u * 2 ^ b + v) p (q ∙ ap (λ (i : ℕ). field_of l i b) e) ∙ sym (field_split l (8 * k) (8 * m) b)

-- t bits of byte k more: r bits of the byte stand before them and s after them
pub field_more : (l : List ℕ) (bit done k r t s acc : ℕ) → acc ≡ field_of l bit done → bit + done ≡ 8 * k + r → r + t + s ≡ 8
    → acc * 2 ^ t + get_or l k 0 / 2 ^ s % 2 ^ t ≡ field_of l bit (done + t)
field_more l bit done k r t s acc p q e =
    ap₂ (λ (u v : ℕ). u * 2 ^ t + v) p (sym (in_byte l k r t s e) ∙ ap (λ (i : ℕ). field_of l i t) (sym q)) ∙ sym (field_split l bit done t)

-- a number of d digits has room for t more in w
pub room_for : (acc d t w : ℕ) → acc < 2 ^ d → d + t ≤ w → acc * 2 ^ t + 2 ^ t ≤ 2 ^ w
room_for acc d t w h l =
    le_trans (omega (arith, native.Mathlib.Nat.mul-le-mul_right (2 ^ t) h, pow-add 2 d t)) (lib.Pow.pow_mono l)

-- a field of a word of `size` bits, `before` bits into it
pub cut_field : (size : ℕ) (l : List ℕ) (i w before width after r : ℕ) → w ≡ field_of l i size → before + width + after ≡ size → r ≡ w / 2 ^ after % 2 ^ width
    → r ≡ field_of l (i + before) width
cut_field size l i w before width after r p e q =
    q ∙ ap (λ (n : ℕ). n / 2 ^ after % 2 ^ width) (p ∙ ap (field_of l i) (sym e)) ∙ field_of_lem l i before width after

-- what the test tells of a field within the bytes
pub within_so : (l : List ℕ) (bit width : ℕ) → is_within l bit width ≡ true → (width ≤ 64) × (bit + width ≤ 8 * length l)
unfolding is_within
within_so l bit width e =
    let both = and_both (leb width 64) (leb (bit + width) (8 * length l)) e in
    (leb-true width 64 both.0, leb-true (bit + width) (8 * length l) both.1)

-- of n bytes that are read into their places, one by one, those before the i-th are the field's first: the one at i comes in its place
pub byte_put : (l : List ℕ) (k i n x y : ℕ) → i < n → get_or l (k + i) 0 < 256 → x ≡ field_of l (8 * k) (8 * i) * 2 ^ (8 * (n - i)) → y ≡ get_or l (k + i) 0
    → bit_or x (y * 2 ^ (8 * (n - 1 - i))) ≡ field_of l (8 * k) (8 * (i + 1)) * 2 ^ (8 * (n - (i + 1)))
byte_put l k i n x y below small e byte =
    let left : ℕ = n - 1 - i in
    let first : ℕ = field_of l (8 * k) (8 * i) in
    let room : 2 ^ (8 * (n - i)) ≡ 2 ^ (8 * left) * 256 = ap (λ (w : ℕ). 2 ^ w) (omega arith) ∙ pow-add 2 (8 * left) 8 in
    let joined : first * 256 + y ≡ field_of l (8 * k) (8 * (i + 1)) =
    join l k i 8 _ _ refl (byte ∙ sym (field_byte l (k + i) small)) ∙ ap (field_of l (8 * k)) (omega arith) in
    let apart : y * 2 ^ (8 * left) < 2 ^ (8 * (n - i)) = subst (λ (m : ℕ). y * 2 ^ (8 * left) < m) (ap (λ (w : ℕ). 2 ^ w) (omega arith)) (shl_lt 8 (8 * left) (omega arith)) in
    let sum : bit_or x (y * 2 ^ (8 * left)) ≡ x + y * 2 ^ (8 * left) =
    rw e (or_shifted first (8 * (n - i)) (y * 2 ^ (8 * left)) apart) in
    let parts : x + y * 2 ^ (8 * left) ≡ (first * 256 + y) * 2 ^ (8 * left) = rw (e, room) (omega arith) in
    sum ∙ parts ∙ ap₂ (λ (m w : ℕ). m * 2 ^ (8 * w)) joined (omega arith)

-- a byte in its place among eight at most
pub byte_fits : (i n y : ℕ) → i < n → n ≤ 8 → y < 256 → y * 2 ^ (8 * (n - 1 - i)) < 2 ^ 64
byte_fits i n y below all small =
    let left : ℕ = 8 * (n - 1 - i) in
    lt_of_lt_of_le (shl_lt 8 left small) (lib.Pow.pow_mono {i = 8 + left} {j = 64} (omega arith))
