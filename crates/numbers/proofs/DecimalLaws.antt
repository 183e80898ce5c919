-- The laws of digits, of a run of stores, and of a text put where there is room for it.
use mathlib.Core.Path.{◌≡◌, refl, sym, ap, ◌∙◌}
use mathlib.Core.Bool.{Bool, true, false, cond, true≢false, false≢true}
use mathlib.Core.Logic.{◌⊎◌, inl, inr, ⊎_elim}
use mathlib.Core.List.{List, [], ◌∷◌, ◌++◌}
use Prim.Native.Nat.{ℕ, zero, suc, ◌+◌, ◌-◌, ◌/◌, ◌%◌, ◌^◌, ◌<◌, ◌≤◌}
use native.Mathlib.Nat.{pow-suc, add-zero}
use native.Mathlib.Decide.{dec_lt}
use native.Mathlib.Omega.{arith}
use lib.IntN.{ℤ, pos, negsuc, nat_abs}
use lib.Signed.{lt_z, le_z}
use mir.Syntax.{w64}
use mir.Val.{SFits}
use lib.ListN.{length, set, take, drop, length-append}
use lib.Seq.{sets, sets-eq, set_comm, length-sets, length-take-le, take_at, take-set-le}
use borrow.Author.Tests.{lt-ltb, le-ltb, le-leb, lt-leb, ltb-true, leb-true, leb-false}
use Rattle.numbers.specs.Decimal.{digits, digits_of, decimal_of, has_room, put_of, end_of}
use Rattle.std.specs.Prelude.{Some, None}

-- ---- the digits of a number, by its last one

one : (k n : ℕ) → n < 10 → digits k n ≡ (48 + n) ∷ []
unfolding digits
one zero n h = refl
one (suc k) n h = rw (lt-ltb n 10 h)

more : (k n : ℕ) → 10 ≤ n → digits (suc k) n ≡ digits k (n / 10) ++ ((48 + n % 10) ∷ [])
unfolding digits
more k n h = rw (le-ltb n 10 h)

-- n divisions are enough
enough : (j k n : ℕ) → n ≤ j → n ≤ k → digits j n ≡ digits k n
enough zero k n h g = one zero n (omega arith) ∙ sym (one k n (omega arith))
enough (suc j) zero n h g = one (suc j) n (omega arith) ∙ sym (one zero n (omega arith))
enough (suc j) (suc k) n h g = go (dec_lt n 10) (enough j k (n / 10) (omega arith) (omega arith))
  where
    go : Dec (n < 10) → digits j (n / 10) ≡ digits k (n / 10) → digits (suc j) n ≡ digits (suc k) n
    go (yes p) e = one (suc j) n p ∙ sym (one (suc k) n p)
    go (no p) e = rw (more j n (omega arith), more k n (omega arith), e)

pub digits_one : (n : ℕ) → n < 10 → digits_of n ≡ (48 + n) ∷ []
unfolding digits_of
digits_one n h = one n n h

pub digits_more : (n : ℕ) → 10 ≤ n → digits_of n ≡ digits_of (n / 10) ++ ((48 + n % 10) ∷ [])
unfolding digits_of
digits_more zero h = absurd (omega arith)
digits_more (suc m) h = more m (suc m) h ∙ ap (λ (l : List ℕ). l ++ ((48 + suc m % 10) ∷ [])) (enough m (suc m / 10) (suc m / 10) (omega arith) (omega arith))

-- as many divisions as there are digits after the first are enough
pub digits_by : (k n : ℕ) → n < 10 ^ suc k → digits_of n ≡ digits k n
digits_by zero n h = digits_one n (omega arith) ∙ sym (one zero n (omega arith))
digits_by (suc k) n h = go (dec_lt n 10) (digits_by k (n / 10) (omega (arith, pow-suc 10 (suc k))))
  where
    go : Dec (n < 10) → digits_of (n / 10) ≡ digits k (n / 10) → digits_of n ≡ digits (suc k) n
    go (yes p) e = digits_one n p ∙ sym (one (suc k) n p)
    go (no p) e = rw (digits_more n (omega arith), more k n (omega arith), e)

-- ---- how many

pub length-one : (n : ℕ) → n < 10 → length (digits_of n) ≡ 1
length-one n h = ap length (digits_one n h)

pub length_more : (n : ℕ) → 10 ≤ n → length (digits_of n) ≡ length (digits_of (n / 10)) + 1
length_more n h = ap length (digits_more n h) ∙ length-append (digits_of (n / 10)) ((48 + n % 10) ∷ [])

pub length_some : (n : ℕ) → 0 < length (digits_of n)
length_some n = go (dec_lt n 10)
  where
    go : Dec (n < 10) → 0 < length (digits_of n)
    go (yes p) = omega (arith, length-one n p)
    go (no p) = omega (arith, length_more n (omega arith))

pub length-below : (k n : ℕ) → n < 10 ^ suc k → length (digits_of n) ≤ suc k
length-below zero n h = omega (arith, length-one n (omega arith))
length-below (suc k) n h = go (dec_lt n 10) (length-below k (n / 10) (omega (arith, pow-suc 10 (suc k))))
  where
    go : Dec (n < 10) → length (digits_of (n / 10)) ≤ suc k → length (digits_of n) ≤ suc (suc k)
    go (yes p) e = omega (arith, length-one n p)
    go (no p) e = omega (arith, length_more n (omega arith))

-- ---- an integer, by its sign

pub length_pos : (x : ℤ) → le_z (pos 0) x ≡ true → length (digits_of (nat_abs x)) ≡ length (decimal_of x)
length_pos (pos a) t = refl
length_pos (negsuc a) t = absurd (false≢true t)

pub length_neg : (x : ℤ) → le_z (pos 0) x ≡ false → length (digits_of (nat_abs x)) + 1 ≡ length (decimal_of x)
length_neg (pos a) t = absurd (omega (arith, leb-false 0 a t))
length_neg (negsuc a) t = omega arith

pub digits_within : (x : ℤ) → length (digits_of (nat_abs x)) ≤ length (decimal_of x)
digits_within (pos a) = omega arith
digits_within (negsuc a) = omega arith

-- at most a sign and 19 digits
pub decimal_short : (x : ℤ) → SFits w64 x → length (decimal_of x) ≤ 20
decimal_short (pos a) f = omega (arith, length-below 18 a (omega (arith, f.sfits)))
decimal_short (negsuc a) f = omega (arith, length-below 18 (suc a) (omega (arith, f.sfits)))

-- ---- a run of stores

-- the last store of a run may come first
last_first : (vs l : List ℕ) (i v : ℕ) → sets l i (vs ++ (v ∷ [])) ≡ sets (set l (i + length vs) v) i vs
last_first [] l i v = ap (λ (k : ℕ). set l k v) (sym (add-zero i))
last_first (a ∷ vs) l i v =
    last_first vs (set l i a) (suc i) v
    ∙ ap (λ (m : List ℕ). sets m (suc i) vs) (set_comm l i (suc i + length vs) a v (omega arith) ∙ ap (λ (k : ℕ). set (set l k v) i a) (omega arith))

-- the last digit of n, and then the others before it
pub digit_first : (l : List ℕ) (i n : ℕ) → 10 ≤ n → sets (set l (i + length (digits_of (n / 10))) (48 + n % 10)) i (digits_of (n / 10)) ≡ sets l i (digits_of n)
digit_first l i n h = rw (digits_more n h) (sym (last_first (digits_of (n / 10)) l i (48 + n % 10)))

-- the first store of a run may come last
first_last : (vs l : List ℕ) (i k v : ℕ) → i < k → set (sets l k vs) i v ≡ sets (set l i v) k vs
first_last [] l i k v h = refl
first_last (a ∷ vs) l i k v h = first_last vs (set l k a) i (suc k) v (omega arith) ∙ ap (λ (m : List ℕ). sets m (suc k) vs) (set_comm l k i a v (omega arith))

-- what stands before a run of stores
pub take-sets : (n : ℕ) (vs l : List ℕ) (i : ℕ) → n ≤ i → take n (sets l i vs) ≡ take n l
take-sets n [] l i h = refl
take-sets n (v ∷ vs) l i h = take-sets n vs (set l i v) (suc i) (omega arith) ∙ take-set-le n l i v h

-- an integer whose digits were put before its end, with the sign put last, if there is one
pub put_neg : (x : ℤ) (l m : List ℕ) (at : ℕ) → lt_z x (pos 0) ≡ true
    → m ≡ sets l (at + length (decimal_of x) - length (digits_of (nat_abs x))) (digits_of (nat_abs x)) → set m at 45 ≡ sets l at (decimal_of x)
put_neg (pos a) l m at t e = absurd (omega (arith, ltb-true a 0 t))
put_neg (negsuc a) l m at t e =
    let start : at + length (decimal_of (negsuc a)) - length (digits_of (suc a)) ≡ suc at = omega arith in
    rw (e, start) (first_last (digits_of (suc a)) l at (suc at) 45 (omega arith))

pub put_pos : (x : ℤ) (l m : List ℕ) (at : ℕ) → lt_z x (pos 0) ≡ false
    → m ≡ sets l (at + length (decimal_of x) - length (digits_of (nat_abs x))) (digits_of (nat_abs x)) → m ≡ sets l at (decimal_of x)
put_pos (pos a) l m at t e = e ∙ ap (λ (i : ℕ). sets l i (digits_of a)) (omega arith)
put_pos (negsuc a) l m at t e = absurd (true≢false t)

-- ---- room

module _ (l : List ℕ) (at : ℕ) (text : List ℕ) where
  pub no_room : length l < at + length text → (None ≡ end_of l at text) × (l ≡ put_of l at text)
  unfolding end_of put_of
  no_room h = rw (lt-leb (at + length text) (length l) h) (refl, refl)

  pub room : (m : List ℕ) → at + length text ≤ length l → m ≡ sets l at text → (Some (at + length text) ≡ end_of l at text) × (m ≡ put_of l at text)
  unfolding end_of put_of
  room m h e = rw (le-leb (at + length text) (length l) h) (refl, e ∙ sets-eq text l at h)

  -- what a caller learns from an end, and from there being none
  pub ended : {n : ℕ} → Some n ≡ end_of l at text → (n ≡ at + length text) × (n ≤ length l)
  unfolding end_of
  ended {n} e = go (has_room l at text) refl e
    where
      go : (t : Bool) → has_room l at text ≡ t → Some n ≡ cond t (Some (at + length text)) None → (n ≡ at + length text) × (n ≤ length l)
      go true r i = let same : n ≡ at + length text = cc in (same, omega (arith, leb-true (at + length text) (length l) r))
      go false r i = let z : ◌≡◌ {A = ℕ} 0 1 = cc in absurd (omega arith)

  pub not_ended : None ≡ end_of l at text → length l < at + length text
  unfolding end_of
  not_ended e = go (has_room l at text) refl e
    where
      go : (t : Bool) → has_room l at text ≡ t → None ≡ cond t (Some (at + length text)) None → length l < at + length text
      go true r i = let z : ◌≡◌ {A = ℕ} 0 1 = cc in absurd (omega arith)
      go false r i = leb-false (at + length text) (length l) r

  -- nothing, or a run of stores
  left_or_stored : (put_of l at text ≡ l) ⊎ (put_of l at text ≡ sets l at text)
  unfolding put_of
  left_or_stored = go (has_room l at text) refl
    where
      go : (t : Bool) → has_room l at text ≡ t
          → (cond t (take at l ++ text ++ drop (at + length text) l) l ≡ l) ⊎ (cond t (take at l ++ text ++ drop (at + length text) l) l ≡ sets l at text)
      go true r = inr (sym (sets-eq text l at (leb-true (at + length text) (length l) r)))
      go false r = inl refl

  pub take_put : (n : ℕ) → n ≤ at → take n (put_of l at text) ≡ take n l
  take_put n h = ⊎_elim (λ e. ap (take n) e) (λ e. ap (take n) e ∙ take-sets n text l at h) left_or_stored

  pub length-put : length (put_of l at text) ≡ length l
  length-put = ⊎_elim (λ e. ap length e) (λ e. ap length e ∙ length-sets l at text) left_or_stored

  pub take_put_end : at + length text ≤ length l → take (at + length text) (put_of l at text) ≡ take at l ++ text
  unfolding put_of
  take_put_end h =
      rw (le-leb (at + length text) (length l) h)
      (take_at (take at l ++ text) (drop (at + length text) l) (at + length text)
      (length-append (take at l) text ∙ ap (λ (k : ℕ). k + length text) (length-take-le at l (omega arith))))
