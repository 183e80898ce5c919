-- The laws of `Pours`: nothing, one after the other, the bits of a number in parts, bytes, and a byte's part. Assumes nothing.
use mathlib.Core.Path.{◌≡◌, refl, sym, ap, ap₂, ◌∙◌, subst}
use mathlib.Core.List.{List, [], ◌∷◌, ◌++◌, append_assoc, append-nil}
use Prim.Native.Nat.{ℕ, suc, ◌+◌, ◌-◌, ◌*◌, ◌/◌, ◌%◌, ◌^◌, ◌≤◌, ◌<◌}
use native.Mathlib.Decide.{dec_le}
use native.Mathlib.Nat.{mod-eq_of_lt, div-eq_of_lt, div-one, sub_self}
use native.Mathlib.Numerals.{add-one}
use native.Mathlib.Omega.{arith}
use lib.ListN.{length, get_or, set, take, drop, length-append, length-drop, length-take, length-set, drop_of_length-le}
use lib.Seq.{take-suc, drop-append-le, drop-cons, set_at, get_or_at, append_snoc}
use lib.Pow.{shr-shr}
use Rattle.rules.specs.Output.{bits_of, byte_of, packed, bytes_for}
use Rattle.pouring.specs.Pouring.{poured, Pours, filled, byte_bits}
use Rattle.pouring.proofs.Bits.{length-bits, bits_split, bits_low, byte_kept, byte_more, length-packed, packed_split, packed_front}

pub pours_none : (p : ℕ) (out : List ℕ) → Pours p [] out out
pours_none p out = record { after = λ found before l e. e ∙ ap (poured found) (sym (append-nil before)); long = refl }

pub pours_then : {p : ℕ} {cs bs out out₁ out₂ : List ℕ} → Pours p cs out out₁ → Pours (p + length cs) bs out₁ out₂ → Pours p (cs ++ bs) out out₂
pours_then {cs = cs} {bs = bs} first second =
    record {
      after = λ found before l e.
          second.after found (before ++ cs) (omega (arith, length-append before cs)) (first.after found before l e)
          ∙ ap (poured found) (append_assoc before cs bs);
      long = second.long ∙ first.long;
    }

-- ---- a number, in parts

pub pours_no_bits : (p w x : ℕ) (out : List ℕ) → Pours p (bits_of (w - w) x) out out
unfolding bits_of
pours_no_bits p w x out = subst (λ (n : ℕ). Pours p (bits_of n x) out out) (sym (sub_self w)) (pours_none p out)

-- t bits more, which leave r: v is the part that they are
pub pours_part : (d t r x v : ℕ) {p q : ℕ} {out out₁ out₂ : List ℕ} → Pours p (bits_of d (x / 2 ^ (r + t))) out out₁ → Pours q (bits_of t v) out₁ out₂
    → q ≡ p + d → v ≡ x / 2 ^ r % 2 ^ t → Pours p (bits_of (d + t) (x / 2 ^ r)) out out₂
pours_part d t r x v {p} {q} {out} {out₁} {out₂} first second at e =
    let here : q ≡ p + length (bits_of d (x / 2 ^ (r + t))) = at ∙ ap (λ (n : ℕ). p + n) (sym (length-bits d (x / 2 ^ (r + t)))) in
    let both = pours_then first (subst (λ (n : ℕ). Pours n (bits_of t v) out₁ out₂) here second) in
    let digits : bits_of d (x / 2 ^ (r + t)) ++ bits_of t v ≡ bits_of (d + t) (x / 2 ^ r) =
    ap₂ ◌++◌ (ap (bits_of d) (sym (shr-shr x r t))) (ap (bits_of t) e ∙ bits_low t (x / 2 ^ r)) ∙ sym (bits_split d t (x / 2 ^ r)) in
    subst (λ (l : List ℕ). Pours p l out out₂) digits both

-- t of the bits that are left of a number of w bits: v is the part that they are
pub pours_more : (w left t x v : ℕ) {p q : ℕ} {out out₁ out₂ : List ℕ} → Pours p (bits_of (w - left) (x / 2 ^ left)) out out₁ → Pours q (bits_of t v) out₁ out₂
    → t ≤ left → left ≤ w → q + left ≡ p + w → v ≡ x / 2 ^ (left - t) % 2 ^ t → Pours p (bits_of (w - (left - t)) (x / 2 ^ (left - t))) out out₂
pours_more w left t x v {p} {q} {out} {out₁} {out₂} first second part fits at e =
    let all : left ≡ left - t + t = omega arith in
    let long : w - left + t ≡ w - (left - t) = omega arith in
    let here : q ≡ p + (w - left) = omega arith in
    subst (λ (n : ℕ). Pours p (bits_of n (x / 2 ^ (left - t))) out out₂) long
    (pours_part (w - left) t (left - t) x v (subst (λ (n : ℕ). Pours p (bits_of (w - left) (x / 2 ^ n)) out out₁) all first) second here e)

-- none is left
pub pours_all : (w left x : ℕ) {p : ℕ} {out out₁ : List ℕ} → left ≡ 0 → Pours p (bits_of (w - left) (x / 2 ^ left)) out out₁ → Pours p (bits_of w x) out out₁
pours_all w left x {p} {out} {out₁} none first =
    let number : x / 2 ^ left ≡ x = ap (λ (n : ℕ). x / 2 ^ n) none ∙ div-one x in
    let long : w - left ≡ w = omega arith in
    subst (λ (n : ℕ). Pours p (bits_of w n) out out₁) number (subst (λ (n : ℕ). Pours p (bits_of n (x / 2 ^ left)) out out₁) long first)

-- all of them
pub pours_rest : (w left x v : ℕ) {p q : ℕ} {out out₁ out₂ : List ℕ} → Pours p (bits_of (w - left) (x / 2 ^ left)) out out₁ → Pours q (bits_of left v) out₁ out₂
    → left ≤ w → q + left ≡ p + w → v ≡ x / 2 ^ 0 % 2 ^ left → Pours p (bits_of w x) out out₂
pours_rest w left x v {p} {q} {out} {out₁} {out₂} first second fits at e =
    let last = pours_more w left left x v first second (omega arith) fits at (rw sub_self e) in
    pours_all w (left - left) x (sub_self left) last

-- ---- bytes

pub length-byte_bits : (xs : List ℕ) → length (byte_bits xs) ≡ 8 * length xs
length-byte_bits [] = refl
length-byte_bits (x ∷ xs) = omega (arith, length-append (bits_of 8 x) (byte_bits xs), length-bits 8 x, length-byte_bits xs)

byte_bits_snoc : (xs : List ℕ) (y : ℕ) → byte_bits (xs ++ (y ∷ [])) ≡ byte_bits xs ++ bits_of 8 y
byte_bits_snoc [] y = append-nil (bits_of 8 y)
byte_bits_snoc (x ∷ xs) y = ap (λ (l : List ℕ). bits_of 8 x ++ l) (byte_bits_snoc xs y) ∙ sym (append_assoc (bits_of 8 x) (byte_bits xs) (bits_of 8 y))

-- the byte after the first i
pub pours_byte : (source : List ℕ) (i : ℕ) {p q : ℕ} {out out₁ out₂ : List ℕ} → Pours p (byte_bits (take i source)) out out₁
    → Pours q (bits_of 8 (get_or source i 0)) out₁ out₂ → i < length source → q ≡ p + 8 * i → Pours p (byte_bits (take (i + 1) source)) out out₂
pours_byte source i {p} {q} {out} {out₁} {out₂} first second h at =
    let part = take i source in
    let y = get_or source i 0 in
    let here : q ≡ p + length (byte_bits part) = omega (arith, length-byte_bits part, length-take i source) in
    let both = pours_then first (subst (λ (n : ℕ). Pours n (bits_of 8 y) out₁ out₂) here second) in
    let all : byte_bits part ++ bits_of 8 y ≡ byte_bits (take (i + 1) source) =
    sym (ap (λ (n : ℕ). byte_bits (take n source)) (add-one i) ∙ ap byte_bits (take-suc source i 0 h) ∙ byte_bits_snoc part y) in
    subst (λ (l : List ℕ). Pours p l out out₂) all both

-- ---- a byte's part

-- what stands in the output, by its last byte that has bits
poured_last : (found bs : List ℕ) (k : ℕ) → 8 * k < length bs → length bs ≤ 8 * k + 8
    → poured found bs ≡ packed k bs ++ byte_of (drop (8 * k) bs) ∷ drop (suc k) found
unfolding packed
poured_last found bs k h g =
    let n : bytes_for bs ≡ k + 1 = omega arith in
    ap (λ (m : ℕ). packed m bs ++ drop m found) n
    ∙ ap₂ ◌++◌ (packed_split k 1 bs) (ap (λ (m : ℕ). drop m found) (add-one k))
    ∙ append_snoc (packed k bs) (byte_of (drop (8 * k) bs)) (drop (suc k) found)

-- what stands at byte k where 8 k + r bits are poured, and after it
record Stands (found before : List ℕ) (k r : ℕ) (out : List ℕ) : Type 0 where
  byte : ℕ
  is : out ≡ packed k before ++ byte ∷ drop (suc k) found
  kept : byte / 2 ^ (8 - r) * 2 ^ (8 - r) ≡ byte_of (drop (8 * k) before)

module _ (found before : List ℕ) (k r : ℕ) (out : List ℕ) (e : out ≡ poured found before) (l : length before ≡ 8 * k + r) where
  tail_long : length (drop (8 * k) before) ≡ r
  tail_long = omega (arith, length-drop (8 * k) before)

  stands_amid : 0 < r → r < 8 → Stands found before k r out
  stands_amid h g =
      record {
        byte = byte_of (drop (8 * k) before);
        is = e ∙ poured_last found before k (omega arith) (omega arith);
        kept = byte_kept (drop (8 * k) before) r tail_long (omega arith);
      }

  stands_new : r ≡ 0 → k < length out → get_or out k 0 < 256 → Stands found before k r out
  stands_new z h small =
      let n : bytes_for before ≡ k = omega arith in
      let was : out ≡ packed k before ++ drop k found = e ∙ ap (λ (m : ℕ). packed m before ++ drop m found) n in
      let more : k < length found =
      omega (arith, ap length was, length-append (packed k before) (drop k found), length-packed k before, length-drop k found) in
      let is : out ≡ packed k before ++ get_or found k 0 ∷ drop (suc k) found = was ∙ ap (λ (l : List ℕ). packed k before ++ l) (drop-cons found k 0 more) in
      let same : get_or out k 0 ≡ get_or found k 0 =
      ap (λ (l : List ℕ). get_or l k 0) is ∙ get_or_at (packed k before) (get_or found k 0) (drop (suc k) found) 0 k (length-packed k before) in
      let none : drop (8 * k) before ≡ [] = drop_of_length-le before {i = 8 * k} (omega arith) in
      record {
        byte = get_or found k 0;
        is = is;
        kept = ap (λ (n : ℕ). get_or found k 0 / 2 ^ (8 - n) * 2 ^ (8 - n)) z
            ∙ ap (λ (n : ℕ). n * 256) (div-eq_of_lt (omega (arith, same)))
            ∙ sym (ap byte_of none);
      }

  stands : r < 8 → k < length out → get_or out k 0 < 256 → Stands found before k r out
  stands g h small = go (dec_le 1 r)
    where
      go : Dec (1 ≤ r) → Stands found before k r out
      go (yes p) = stands_amid (omega arith) g
      go (no p) = stands_new (omega arith) h small

-- a byte of the output with t bits more
pub pours_filled : (out : List ℕ) (k r t x v : ℕ) → k < length out → get_or out k 0 < 256 → 1 ≤ t → r + t ≤ 8 → x < 2 ^ t
    → v ≡ filled (get_or out k 0) r t x → Pours (8 * k + r) (bits_of t x) out (set out k v)
pours_filled out k r t x v h small some fits low ev =
    record { after = go; long = length-set out k v }
  where
    go : (found before : List ℕ) → length before ≡ 8 * k + r → out ≡ poured found before → set out k v ≡ poured found (before ++ bits_of t x)
    go found before l e =
        let s = stands found before k r out e l (omega arith) h small in
        let front = packed k before in
        let rest = drop (suc k) found in
        let tail = drop (8 * k) before in
        let long : length (before ++ bits_of t x) ≡ 8 * k + r + t = omega (arith, length-append before (bits_of t x), length-bits t x) in
        let old : get_or out k 0 ≡ s.byte = ap (λ (m : List ℕ). get_or m k 0) s.is ∙ get_or_at front s.byte rest 0 k (length-packed k before) in
        let new : v ≡ byte_of (tail ++ bits_of t x) =
        ev
        ∙ ap (λ (m : ℕ). m / 2 ^ (8 - r) * 2 ^ (8 - r) + x * 2 ^ (8 - r - t)) old
        ∙ ap₂ (λ (m n : ℕ). m + n * 2 ^ (8 - r - t)) s.kept (sym (mod-eq_of_lt low))
        ∙ sym (byte_more tail r t x (tail_long found before k r out e l) fits) in
        ap (λ (m : List ℕ). set m k v) s.is
        ∙ set_at front s.byte rest v k (length-packed k before)
        ∙ ap₂ (λ (m : List ℕ) (n : ℕ). m ++ n ∷ rest)
        (sym (packed_front k before (bits_of t x) (omega arith)))
        (new ∙ ap byte_of (sym (drop-append-le (8 * k) before (bits_of t x) (omega arith))))
        ∙ sym (poured_last found (before ++ bits_of t x) k (omega arith) (omega arith))
