-- The laws of `Put` and `Mixed`, each once for every width. Assumes nothing.
use mathlib.Core.Path.{◌≡◌, refl, sym, ap, ap₂, ◌∙◌, subst}
use mathlib.Core.Logic.{◌⊎◌, inl, inr, ⊎_elim}
use mathlib.Core.List.{List}
use Prim.Native.Nat.{ℕ, suc, ◌+◌, ◌-◌, ◌*◌, ◌/◌, ◌%◌, ◌^◌, ◌≤◌, ◌<◌}
use native.Mathlib.Nat.{mod-lt, add-zero, zero-add, div-eq_of_lt}
use native.Mathlib.Decide.{ℕ_discrete, dec_lt}
use native.Mathlib.Omega.{arith}
use lib.Arith.{digits_lt}
use lib.ListN.{length, get_or, set, length-set}
use lib.Seq.{get_or-set_same, get_or-set_other, ext_get_or}
use lib.Pow.{pow_pos, high, low, shr-shr, field, split, pow-add, mod-mod-pow, shr_lt}
use Rattle.fields.specs.Field.{bit_at, field_of, Put, Mixed}
use Rattle.fields.proofs.Laws.{field_same, field_split, field_of_lem, field_byte, in_byte}

-- x with v for the t digits from s on
mixed : ℕ → ℕ → ℕ → ℕ → ℕ
mixed x s t v = x / 2 ^ (s + t) * 2 ^ (s + t) + v * 2 ^ s + x % 2 ^ s

-- the same by its three parts
by_digits : (x s t v : ℕ) → mixed x s t v ≡ (x / 2 ^ (s + t) * 2 ^ t + v) * 2 ^ s + x % 2 ^ s
unfolding mixed
by_digits x s t v = rw (pow-add 2 s t) (omega arith)

pub mixed_lt : (x s t v : ℕ) → x < 256 → s + t ≤ 8 → v < 2 ^ t → x / 2 ^ (s + t) * 2 ^ (s + t) + v * 2 ^ s + x % 2 ^ s < 256
unfolding mixed
mixed_lt x s t v h l lv =
    let n : ℕ = 8 - (s + t) in
    let e : n + (s + t) ≡ 8 = omega arith in
    let top : x / 2 ^ (s + t) < 2 ^ n = shr_lt n (s + t) (subst (λ (k : ℕ). x < 2 ^ k) (sym e) h) in
    let rest : v * 2 ^ s + x % 2 ^ s < 2 ^ t * 2 ^ s = digits_lt lv (mod-lt x (pow_pos s)) in
    let p : 2 ^ t * 2 ^ s ≡ 2 ^ (s + t) = native.Mathlib.Nat.mul_comm (2 ^ t) (2 ^ s) ∙ sym (pow-add 2 s t) in
    let all : x / 2 ^ (s + t) * 2 ^ (s + t) + (v * 2 ^ s + x % 2 ^ s) < 2 ^ n * 2 ^ (s + t) = digits_lt top (subst (λ (k : ℕ). v * 2 ^ s + x % 2 ^ s < k) p rest) in
    let q : 2 ^ n * 2 ^ (s + t) ≡ 256 = sym (pow-add 2 n (s + t)) ∙ ap (λ (k : ℕ). 2 ^ k) e in
    omega arith

-- digit j of n is digit j of its s low digits
low_digit : (n j s : ℕ) → j < s → n / 2 ^ j % 2 ≡ n % 2 ^ s / 2 ^ j % 2
low_digit n j s h =
    let m : ℕ = s - suc j in
    let e : m + 1 + j ≡ s = omega arith in
    sym (mod-mod-pow (n / 2 ^ j) m 1)
    ∙ ap (λ (k : ℕ). k % 2) (sym (field n (m + 1) j) ∙ ap (λ (k : ℕ). n % 2 ^ k / 2 ^ j) e)

-- digit j of n, past its s low ones, is a digit of the others
high_digit : (n j s : ℕ) → s ≤ j → n / 2 ^ j ≡ n / 2 ^ s / 2 ^ (j - s)
high_digit n j s h =
    let e : s + (j - s) ≡ j = omega arith in
    sym (shr-shr n s (j - s) ∙ ap (λ (k : ℕ). n / 2 ^ k) e)

pub mixes : (x s t v y : ℕ) → v < 2 ^ t → y ≡ x / 2 ^ (s + t) * 2 ^ (s + t) + v * 2 ^ s + x % 2 ^ s → Mixed x s t v y
unfolding mixed
mixes x s t v y lv q =
    let r : x % 2 ^ s < 2 ^ s = mod-lt x (pow_pos s) in
    let e : y ≡ (x / 2 ^ (s + t) * 2 ^ t + v) * 2 ^ s + x % 2 ^ s = q ∙ by_digits x s t v in
    let up : y / 2 ^ s ≡ x / 2 ^ (s + t) * 2 ^ t + v = ap (λ (n : ℕ). n / 2 ^ s) e ∙ high (x / 2 ^ (s + t) * 2 ^ t + v) s r in
    let down : y % 2 ^ s ≡ x % 2 ^ s = ap (λ (n : ℕ). n % 2 ^ s) e ∙ low (x / 2 ^ (s + t) * 2 ^ t + v) s r in
    let top : y / 2 ^ (s + t) ≡ x / 2 ^ (s + t) = sym (shr-shr y s t) ∙ ap (λ (n : ℕ). n / 2 ^ t) up ∙ high (x / 2 ^ (s + t)) t lv in
    record {
      here = ap (λ (n : ℕ). n % 2 ^ t) up ∙ low (x / 2 ^ (s + t)) t lv;
      others =
          λ j. ⊎_elim
          (λ h. low_digit y j s h ∙ ap (λ (n : ℕ). n / 2 ^ j % 2) down ∙ sym (low_digit x j s h))
          (λ h. ap (λ (n : ℕ). n % 2) (high_digit y j (s + t) h ∙ ap (λ (n : ℕ). n / 2 ^ (j - (s + t))) top ∙ sym (high_digit x j (s + t) h)));
    }

-- a byte mixed in its place is a field put
module _ (l : List ℕ) (k s t v y : ℕ) (within : k < length l) (small : s + t ≤ 8) (m : Mixed (get_or l k 0) s t v y) where
  same_byte : (i : ℕ) → i / 8 ≡ k → (i < 8 * k + (8 - (s + t))) ⊎ (8 * k + (8 - (s + t)) + t ≤ i) → bit_at (set l k y) i ≡ bit_at l i
  unfolding bit_at
  same_byte i e side =
      ap (λ (n : ℕ). get_or (set l k y) n 0 / 2 ^ (7 - i % 8) % 2) e
      ∙ ap (λ (n : ℕ). n / 2 ^ (7 - i % 8) % 2) (get_or-set_same l k y 0 within)
      ∙ m.others (7 - i % 8) (⊎_elim (λ h. inr (omega arith)) (λ h. inl (omega arith)) side)
      ∙ ap (λ (n : ℕ). get_or l n 0 / 2 ^ (7 - i % 8) % 2) (sym e)

  other_byte : (i : ℕ) → ¬ (i / 8 ≡ k) → bit_at (set l k y) i ≡ bit_at l i
  unfolding bit_at
  other_byte i e = ap (λ (n : ℕ). n / 2 ^ (7 - i % 8) % 2) (get_or-set_other l k (i / 8) y 0 e)

  any_byte : (i : ℕ) → Dec (i / 8 ≡ k) → (i < 8 * k + (8 - (s + t))) ⊎ (8 * k + (8 - (s + t)) + t ≤ i) → bit_at (set l k y) i ≡ bit_at l i
  any_byte i (yes e) side = same_byte i e side
  any_byte i (no e) side = other_byte i e

  pub put_byte : Put l (set l k y) (8 * k + (8 - (s + t))) t v
  put_byte =
      record {
        here =
            in_byte (set l k y) k (8 - (s + t)) t s (omega arith)
            ∙ ap (λ (n : ℕ). n / 2 ^ s % 2 ^ t) (get_or-set_same l k y 0 within)
            ∙ m.here;
        others = λ i side. any_byte i (ℕ_discrete (i / 8) k) side;
        long = length-set l k y;
      }

-- nothing put
pub put_none : (l : List ℕ) (bit v w : ℕ) → v < 2 ^ w → Put l l bit 0 (v / 2 ^ w)
unfolding field_of
put_none l bit v w h = record { here = sym (div-eq_of_lt h); others = λ i side. refl; long = refl }

-- two fields put one after the other are one
pub put_then : (l m n : List ℕ) (bit d t u v : ℕ) → Put l m bit d u → Put m n (bit + d) t v → Put l n bit (d + t) (u * 2 ^ t + v)
put_then l m n bit d t u v p q =
    record {
      here =
          field_split n bit d t
          ∙ ap₂ (λ (a b : ℕ). a * 2 ^ t + b) (field_same n m bit d (λ j _ h. q.others j (inl h)) ∙ p.here) q.here;
      others =
          λ i side.
          q.others i (⊎_elim (λ h. inl (omega arith)) (λ h. inr (omega arith)) side)
          ∙ p.others i (⊎_elim (λ h. inl h) (λ h. inr (omega arith)) side);
      long = q.long ∙ p.long;
    }

-- a field apart from one that was put reads as before
pub put_apart : (l m : List ℕ) (bit width v i w : ℕ) → Put l m bit width v → (i + w ≤ bit) ⊎ (bit + width ≤ i) → field_of m i w ≡ field_of l i w
put_apart l m bit width v i w p side =
    field_same m l i w (λ j a b. p.others j (⊎_elim (λ h. inl (omega arith)) (λ h. inr (omega arith)) side))

-- the t digits of v above the last r, after those above them
pub next_digits : (v r t : ℕ) → v / 2 ^ (r + t) * 2 ^ t + v / 2 ^ r % 2 ^ t ≡ v / 2 ^ r
next_digits v r t = ap (λ (n : ℕ). n * 2 ^ t + v / 2 ^ r % 2 ^ t) (sym (shr-shr v r t)) ∙ split (v / 2 ^ r) t

-- a bit of a field is the field's digit there
digit : (l : List ℕ) (i w j : ℕ) → j < w → bit_at l (i + j) ≡ field_of l i w / 2 ^ (w - suc j) % 2
unfolding field_of
digit l i w j h =
    let e : j + 1 + (w - suc j) ≡ w = omega arith in
    let one : field_of l (i + j) 1 ≡ bit_at l (i + j) = zero-add (bit_at l (i + j + 0)) ∙ ap (bit_at l) (add-zero (i + j)) in
    sym (ap (λ (n : ℕ). field_of l i n / 2 ^ (w - suc j) % 2) (sym e) ∙ field_of_lem l i j 1 (w - suc j) ∙ one)

-- every bit of what was put is determined
put_bit : (k m n : List ℕ) (bit width v : ℕ) → Put k m bit width v → Put k n bit width v → (i : ℕ) → bit_at m i ≡ bit_at n i
put_bit k m n bit width v p q i = go (dec_lt i bit) (dec_lt i (bit + width))
  where
    apart : (i < bit) ⊎ (bit + width ≤ i) → bit_at m i ≡ bit_at n i
    apart side = p.others i side ∙ sym (q.others i side)

    go : Dec (i < bit) → Dec (i < bit + width) → bit_at m i ≡ bit_at n i
    go (yes h) _ = apart (inl h)
    go (no h) (no g) = apart (inr (omega arith))
    go (no h) (yes g) =
        let e : bit + (i - bit) ≡ i = omega arith in
        let h : i - bit < width = omega arith in
        ap (bit_at m) (sym e) ∙ digit m bit width (i - bit) h
        ∙ ap (λ (f : ℕ). f / 2 ^ (width - suc (i - bit)) % 2) (p.here ∙ sym q.here)
        ∙ sym (digit n bit width (i - bit) h) ∙ ap (bit_at n) e

-- so `Put` determines the bytes that it leaves
pub put_once : (k m n : List ℕ) (bit width v : ℕ) → ((i : ℕ) → get_or m i 0 < 256) → ((i : ℕ) → get_or n i 0 < 256)
    → Put k m bit width v → Put k n bit width v → m ≡ n
put_once k m n bit width v small-m small_n p q =
    ext_get_or 0 m n (p.long ∙ sym q.long)
    (λ i _.
    sym (field_byte m i (small-m i))
    ∙ field_same m n (8 * i) 8 (λ j _ _. put_bit k m n bit width v p q j)
    ∙ field_byte n i (small_n i))
