-- The laws of bits, each once for every width, and of bits packed into bytes. Assumes nothing.
use mathlib.Core.Path.{◌≡◌, refl, sym, ap, ap₂, ◌∙◌}
use mathlib.Core.List.{List, [], ◌∷◌, ◌++◌}
use Prim.Native.Nat.{ℕ, zero, suc, ◌+◌, ◌-◌, ◌*◌, ◌/◌, ◌%◌, ◌^◌, ◌≤◌, ◌<◌}
use native.Mathlib.Nat.{mod-one, zero-add, suc-add, zero-mul, add-mul, mul_assoc}
use native.Mathlib.Omega.{arith}
use lib.ListN.{length, drop, length-drop}
use lib.Seq.{drop-append-le, drop-drop}
use lib.Pow.{pow-add, shr-shr, shl-shr, mod-pow-add, mod-mod-pow, field}
use Rattle.fields.proofs.Putting.{mixed_lt}
use Rattle.rules.specs.Output.{bits_of, byte_of, packed}
use Rattle.pouring.specs.Pouring.{filled}

-- ---- the bits of a number

pub length-bits : (w x : ℕ) → length (bits_of w x) ≡ w
unfolding bits_of
length-bits zero x = refl
length-bits (suc w) x = ap suc (length-bits w x)

-- a + b bits are the first a, and the b after them
pub bits_split : (a b x : ℕ) → bits_of (a + b) x ≡ bits_of a (x / 2 ^ b) ++ bits_of b x
unfolding bits_of
bits_split zero b x = rw zero-add
bits_split (suc a) b x =
    let comm : a + b ≡ b + a = omega arith in
    ap (λ (n : ℕ). bits_of n x) (suc-add a b)
    ∙ ap₂ ◌∷◌ (ap (λ (n : ℕ). n % 2) (ap (λ (k : ℕ). x / 2 ^ k) comm ∙ sym (shr-shr x b a))) (bits_split a b x)

-- the bits above the width change nothing
bits_below : (w j x : ℕ) → bits_of w (x % 2 ^ (j + w)) ≡ bits_of w x
unfolding bits_of
bits_below zero j x = refl
bits_below (suc w) j x =
    let at : j + suc w ≡ j + 1 + w = omega arith in
    ap₂ ◌∷◌
    (ap (λ (k : ℕ). x % 2 ^ k / 2 ^ w % 2) at ∙ ap (λ (n : ℕ). n % 2) (field x (j + 1) w) ∙ mod-mod-pow (x / 2 ^ w) j 1)
    (ap (λ (k : ℕ). bits_of w (x % 2 ^ k)) at ∙ bits_below w (j + 1) x)

pub bits_low : (w x : ℕ) → bits_of w (x % 2 ^ w) ≡ bits_of w x
bits_low w x = ap (λ (n : ℕ). bits_of w (x % 2 ^ n)) (sym (zero-add w)) ∙ bits_below w 0 x

-- ---- a byte of bits

-- the number that the first n of these bits make, zeros for those that are missing
unfoldable up_to : ℕ → List ℕ → ℕ
up_to zero bs = 0
up_to (suc n) [] = 0
up_to (suc n) (b ∷ bs) = b * 2 ^ n + up_to n bs

byte_is : (bs : List ℕ) → byte_of bs ≡ up_to 8 bs
unfolding up_to
byte_is [] = refl
byte_is (a ∷ []) = omega arith
byte_is (a ∷ b ∷ []) = omega arith
byte_is (a ∷ b ∷ c ∷ []) = omega arith
byte_is (a ∷ b ∷ c ∷ d ∷ []) = omega arith
byte_is (a ∷ b ∷ c ∷ d ∷ e ∷ []) = omega arith
byte_is (a ∷ b ∷ c ∷ d ∷ e ∷ f ∷ []) = omega arith
byte_is (a ∷ b ∷ c ∷ d ∷ e ∷ f ∷ g ∷ []) = omega arith
byte_is (a ∷ b ∷ c ∷ d ∷ e ∷ f ∷ g ∷ h ∷ bs) = omega arith

up_to_none : (n : ℕ) → up_to n [] ≡ 0
unfolding up_to
up_to_none zero = refl
up_to_none (suc n) = refl

up_to_append : (cs bs : List ℕ) (n : ℕ) → up_to (length cs + n) (cs ++ bs) ≡ up_to (length cs + n) cs + up_to n bs
unfolding up_to
up_to_append [] bs n = rw (zero-add n) (rw (up_to_none n, zero-add))
up_to_append (c ∷ cs) bs n = rw (suc-add (length cs) n) (omega (arith, up_to_append cs bs n))

up_to_bits : (t n x : ℕ) → up_to (t + n) (bits_of t x) ≡ x % 2 ^ t * 2 ^ n
unfolding up_to bits_of
up_to_bits zero n x = rw (zero-add, up_to_none, mod-one) (sym (zero-mul (2 ^ n)))
up_to_bits (suc t) n x =
    let y = x / 2 ^ t % 2 in
    ap (λ (k : ℕ). up_to k (bits_of (suc t) x)) (suc-add t n)
    ∙ ap₂ ◌+◌ (ap (λ (k : ℕ). y * k) (pow-add 2 t n) ∙ sym (mul_assoc y (2 ^ t) (2 ^ n))) (up_to_bits t n x)
    ∙ sym (add-mul (y * 2 ^ t) (x % 2 ^ t) (2 ^ n))
    ∙ ap (λ (k : ℕ). k * 2 ^ n) (sym (mod-pow-add x 1 t) ∙ ap (λ (k : ℕ). x % 2 ^ k) (suc-add 0 t ∙ ap suc (zero-add t)))

-- the bits that are there, with zeros after them
up_to_wide : (bs : List ℕ) (n : ℕ) → up_to (length bs + n) bs ≡ up_to (length bs) bs * 2 ^ n
unfolding up_to
up_to_wide [] n = rw (zero-add, up_to_none) (sym (zero-mul (2 ^ n)))
up_to_wide (b ∷ bs) n =
    ap (λ (k : ℕ). up_to k (b ∷ bs)) (suc-add (length bs) n)
    ∙ ap₂ ◌+◌ (ap (λ (k : ℕ). b * k) (pow-add 2 (length bs) n) ∙ sym (mul_assoc b (2 ^ length bs) (2 ^ n))) (up_to_wide bs n)
    ∙ sym (add-mul (b * 2 ^ length bs) (up_to (length bs) bs) (2 ^ n))

-- a byte that has r bits is a multiple of what the others may come to
pub byte_kept : (bs : List ℕ) (r : ℕ) → length bs ≡ r → r ≤ 8 → byte_of bs / 2 ^ (8 - r) * 2 ^ (8 - r) ≡ byte_of bs
byte_kept bs r e h =
    let s = 8 - r in
    let all : 8 ≡ length bs + s = omega arith in
    let is : byte_of bs ≡ up_to (length bs) bs * 2 ^ s = byte_is bs ∙ ap (λ (n : ℕ). up_to n bs) all ∙ up_to_wide bs s in
    ap (λ (n : ℕ). n / 2 ^ s * 2 ^ s) is ∙ ap (λ (n : ℕ). n * 2 ^ s) (shl-shr (up_to (length bs) bs) s) ∙ sym is

-- t bits more
pub byte_more : (bs : List ℕ) (r t x : ℕ) → length bs ≡ r → r + t ≤ 8 → byte_of (bs ++ bits_of t x) ≡ byte_of bs + x % 2 ^ t * 2 ^ (8 - r - t)
byte_more bs r t x e h =
    let s = 8 - r in
    let u = 8 - r - t in
    let all : 8 ≡ length bs + s = omega arith in
    let some : s ≡ t + u = omega arith in
    byte_is (bs ++ bits_of t x)
    ∙ ap (λ (n : ℕ). up_to n (bs ++ bits_of t x)) all
    ∙ up_to_append bs (bits_of t x) s
    ∙ ap₂ ◌+◌ (ap (λ (n : ℕ). up_to n bs) (sym all) ∙ sym (byte_is bs)) (ap (λ (n : ℕ). up_to n (bits_of t x)) some ∙ up_to_bits t u x)

-- a byte with t bits more is a byte
pub filled_lt : (old r t x : ℕ) → old < 256 → r + t ≤ 8 → x < 2 ^ t → filled old r t x < 256
filled_lt old r t x h l low =
    let s = 8 - r - t in
    let e : s + t ≡ 8 - r = omega arith in
    omega (arith, mixed_lt old s t x h (omega arith) low, ap (λ (n : ℕ). old / 2 ^ n * 2 ^ n) e)

-- ---- bytes of bits

pub length-packed : (n : ℕ) (bs : List ℕ) → length (packed n bs) ≡ n
unfolding packed
length-packed zero bs = refl
length-packed (suc n) bs = ap suc (length-packed n (drop 8 bs))

-- the bytes after the first k
pub packed_split : (k n : ℕ) (bs : List ℕ) → packed (k + n) bs ≡ packed k bs ++ packed n (drop (8 * k) bs)
unfolding packed
packed_split zero n bs = rw zero-add
packed_split (suc k) n bs =
    let on : 8 + 8 * k ≡ 8 * suc k = omega arith in
    ap (λ (m : ℕ). packed m bs) (suc-add k n)
    ∙ ap (λ (l : List ℕ). byte_of bs ∷ l)
    (packed_split k n (drop 8 bs)
    ∙ ap (λ (l : List ℕ). packed k (drop 8 bs) ++ packed n l) (drop-drop (8 * k) 8 bs ∙ ap (λ (m : ℕ). drop m bs) on))

byte_front : (bs cs : List ℕ) → 8 ≤ length bs → byte_of (bs ++ cs) ≡ byte_of bs
byte_front (a ∷ b ∷ c ∷ d ∷ e ∷ f ∷ g ∷ h ∷ bs) cs l = refl
byte_front [] cs l = absurd (omega arith)
byte_front (a ∷ []) cs l = absurd (omega arith)
byte_front (a ∷ b ∷ []) cs l = absurd (omega arith)
byte_front (a ∷ b ∷ c ∷ []) cs l = absurd (omega arith)
byte_front (a ∷ b ∷ c ∷ d ∷ []) cs l = absurd (omega arith)
byte_front (a ∷ b ∷ c ∷ d ∷ e ∷ []) cs l = absurd (omega arith)
byte_front (a ∷ b ∷ c ∷ d ∷ e ∷ f ∷ []) cs l = absurd (omega arith)
byte_front (a ∷ b ∷ c ∷ d ∷ e ∷ f ∷ g ∷ []) cs l = absurd (omega arith)

-- whole bytes stay as they are where bits are added
pub packed_front : (k : ℕ) (bs cs : List ℕ) → 8 * k ≤ length bs → packed k (bs ++ cs) ≡ packed k bs
unfolding packed
packed_front zero bs cs h = refl
packed_front (suc k) bs cs h =
    ap₂ ◌∷◌ (byte_front bs cs (omega arith))
    (ap (packed k) (drop-append-le 8 bs cs (omega arith)) ∙ packed_front k (drop 8 bs) cs (omega (arith, length-drop 8 bs)))
