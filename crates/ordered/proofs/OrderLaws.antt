-- The laws of the order in which entries are written: it is strict and transitive, the sorted cells stand in it, and the next of them is the first of those after the last. Assumes nothing.
use mathlib.Core.Path.{◌≡◌, refl, sym, ap, subst, ◌∙◌}
use mathlib.Core.Logic.{◌⊎◌, inl, inr, ⊎_elim}
use mathlib.Core.Bool.{Bool, true, false, not, cond, true≢false}
use mathlib.Core.List.Memᴰ
use mathlib.Core.List.{List, [], ◌∷◌, ◌++◌, Memᴰ}
use mathlib.Core.Option.{Option, some, none}
use Prim.Native.Nat.{ℕ, zero, suc, ◌+◌, ◌≤◌, ◌<◌}
use native.Mathlib.Decide.{dec_lt}
use native.Mathlib.Omega.{arith}
use borrow.Author.Tests.{lt-ltb, le-ltb, not-true}
use Rattle.std.proofs.lemmas.Bool.{false_from_ne_true}
use lib.ListN.{length, get_or}
use Rattle.packed.specs.declared.layout.Header.{Header}
use Rattle.rules.specs.Store.{Cell, head}
use Rattle.rules.specs.Output.{ascending}
use Rattle.std.specs.Prelude.{Option as Found, Some, None}
use Rattle.stores.specs.Finding.{found_of}
use Rattle.ordered.specs.Ordered.{owns, key_text, placed, sorted_from, sorted_cells, precedes, is_after, next_of, first_of, better_of}
use Rattle.ordered.proofs.Ascending.{ascending_total, ascending_trans, ascending_self}

abbrev pub head_of : List ℕ → Option ℕ
head_of [] = none
head_of (i ∷ is) = some i

module _ (image : List ℕ) (h : Header) (cells : List Cell) where
  -- ---- which of two cells is written first

  abbrev ordered : ℕ → ℕ → Bool
  ordered i j = ascending (key_text image h cells i) (key_text image h cells j)

  abbrev First : ℕ → ℕ → Type 0
  First i j = precedes image h cells i j ≡ true

  pub upward : (i j : ℕ) → i < j → precedes image h cells i j ≡ ordered i j
  unfolding precedes
  upward i j h = rw (lt-ltb i j h)

  pub downward : (i j : ℕ) → j ≤ i → precedes image h cells i j ≡ not (ordered j i)
  unfolding precedes
  downward i j h = rw (le-ltb i j h)

  first_told : (i j : ℕ) → First i j → (ordered i j ≡ true) × ((i < j) ⊎ (ordered j i ≡ false))
  first_told i j t = go (dec_lt i j)
    where
      go : Dec (i < j) → (ordered i j ≡ true) × ((i < j) ⊎ (ordered j i ≡ false))
      go (yes below) = (sym (upward i j below) ∙ t, inl below)
      go (no above) =
          let never : ordered j i ≡ false = not-true (ordered j i) (sym (downward i j (omega arith)) ∙ t) in
          (ascending_total (key_text image h cells j) (key_text image h cells i) never, inr never)

  first_is : (i j : ℕ) → ordered i j ≡ true → (i < j) ⊎ (ordered j i ≡ false) → First i j
  first_is i j up s = go (dec_lt i j) s
    where
      go : Dec (i < j) → (i < j) ⊎ (ordered j i ≡ false) → First i j
      go (yes below) s = upward i j below ∙ up
      go (no above) (inl below) = absurd (above below)
      go (no above) (inr never) = downward i j (omega arith) ∙ ap not never

  first_trans : (i j k : ℕ) → First i j → First j k → First i k
  first_trans i j k p q = go (first_told i j p) (first_told j k q)
    where
      go : (ordered i j ≡ true) × ((i < j) ⊎ (ordered j i ≡ false)) → (ordered j k ≡ true) × ((j < k) ⊎ (ordered k j ≡ false)) → First i k
      go (up, s) (up', s') = first_is i k (through i j k up up') (why s s')
        where
          through : (l m n : ℕ) → ordered l m ≡ true → ordered m n ≡ true → ordered l n ≡ true
          through l m n = ascending_trans (key_text image h cells l) (key_text image h cells m) (key_text image h cells n)

          why : (i < j) ⊎ (ordered j i ≡ false) → (j < k) ⊎ (ordered k j ≡ false) → (i < k) ⊎ (ordered k i ≡ false)
          why (inl a) (inl b) = inl (omega arith)
          why (inr a) b = inr (false_from_ne_true (ordered k i) (λ t. true≢false (sym (through j k i up' t) ∙ a)))
          why (inl a) (inr b) = inr (false_from_ne_true (ordered k i) (λ t. true≢false (sym (through k i j t up) ∙ b)))

  not_itself : (i : ℕ) → precedes image h cells i i ≡ false
  not_itself i = downward i i (omega arith) ∙ ap not (ascending_self (key_text image h cells i))

  not_both : (i j : ℕ) → First i j → precedes image h cells j i ≡ false
  not_both i j p = false_from_ne_true (precedes image h cells j i) (λ q. true≢false (sym (first_trans i j i p q) ∙ not_itself i))

  -- ---- the sorted cells stand in that order

  abbrev Above : ℕ → List ℕ → Type 0
  Above i js = (k : ℕ) → Memᴰ k js → First i k

  abbrev Sorted : List ℕ → Type 0
  Sorted [] = Unit
  Sorted (j ∷ js) = Above j js × Sorted js

  placed_member : (i k : ℕ) (js : List ℕ) → Memᴰ k (placed image h cells i js) → (k ≡ i) ⊎ Memᴰ k js
  unfolding placed
  placed_member i k [] m = Memᴰ.cases_cons m
  placed_member i k (j ∷ js) m = go (ordered i j) m (placed_member i k js)
    where
      go : (b : Bool) → Memᴰ k (cond b (i ∷ j ∷ js) (j ∷ placed image h cells i js)) → (Memᴰ k (placed image h cells i js) → (k ≡ i) ⊎ Memᴰ k js)
          → (k ≡ i) ⊎ Memᴰ k (j ∷ js)
      go true m rest = Memᴰ.cases_cons m
      go false m rest = ⊎_elim (λ e. inr (Memᴰ.head e)) (λ n. ⊎_elim inl (λ l. inr (Memᴰ.tail l)) (rest n)) (Memᴰ.cases_cons m)

  -- cell i placed among cells of greater numbers
  abbrev Greater : ℕ → List ℕ → Type 0
  Greater i js = (k : ℕ) → Memᴰ k js → i < k

  placed_sorted : (i : ℕ) (js : List ℕ) → Greater i js → Sorted js → Sorted (placed image h cells i js)
  unfolding placed
  placed_sorted i [] more s = ((λ k m. absurd (Memᴰ.not-nil m)), tt)
  placed_sorted i (j ∷ js) more s = go (ordered i j) refl (placed_sorted i js (λ k m. more k (Memᴰ.tail m)) s.1)
    where
      below : i < j
      below = more j (Memᴰ.head refl)

      go : (b : Bool) → ordered i j ≡ b → Sorted (placed image h cells i js) → Sorted (cond b (i ∷ j ∷ js) (j ∷ placed image h cells i js))
      go true e rest =
          let here : First i j = upward i j below ∙ e in
          ((λ k m. ⊎_elim (λ q. subst (First i) (sym q) here) (λ n. first_trans i j k here (s.0 k n)) (Memᴰ.cases_cons m)), s)
      go false e rest =
          let there : First j i = downward j i (omega (arith, below)) ∙ ap not e in
          ((λ k m. ⊎_elim (λ q. subst (First j) (sym q) there) (λ n. s.0 k n) (placed_member i k js m)), rest)

  -- of the n cells from i on, an entry of the owner
  abbrev Entry : ℕ → ℕ → ℕ → ℕ → Type 0
  Entry owner i n k = (i ≤ k) × (k < i + n) × (owns owner (get_or cells k (head 0)) ≡ true)

  sorted_member : (owner i n k : ℕ) → Memᴰ k (sorted_from image h cells owner i n) → Entry owner i n k
  unfolding sorted_from
  sorted_member owner i zero k m = absurd (Memᴰ.not-nil m)
  sorted_member owner i (suc n) k m =
      go (owns owner (get_or cells i (head 0))) refl m (λ l. let r = sorted_member owner (suc i) n k l in (omega arith, omega arith, r.2))
    where
      go : (b : Bool) → owns owner (get_or cells i (head 0)) ≡ b
          → Memᴰ k (cond b (placed image h cells i (sorted_from image h cells owner (suc i) n)) (sorted_from image h cells owner (suc i) n))
          → (Memᴰ k (sorted_from image h cells owner (suc i) n) → Entry owner i (suc n) k) → Entry owner i (suc n) k
      go true e m later =
          ⊎_elim (λ q. (omega arith, omega arith, ap (λ (l : ℕ). owns owner (get_or cells l (head 0))) q ∙ e)) later
          (placed_member i k (sorted_from image h cells owner (suc i) n) m)
      go false e m later = later m

  pub sorted_cell : (owner k : ℕ) → Memᴰ k (sorted_cells image h owner cells) → (k < length cells) × (owns owner (get_or cells k (head 0)) ≡ true)
  sorted_cell owner k m = let r = sorted_member owner 0 (length cells) k m in (omega arith, r.2)

  greater : (owner i n : ℕ) → Greater i (sorted_from image h cells owner (suc i) n)
  greater owner i n k m = omega (arith, (sorted_member owner (suc i) n k m).0)

  sorted : (owner i n : ℕ) → Sorted (sorted_from image h cells owner i n)
  unfolding sorted_from
  sorted owner i zero = tt
  sorted owner i (suc n) = go (owns owner (get_or cells i (head 0))) (sorted owner (suc i) n)
    where
      go : (b : Bool) → Sorted (sorted_from image h cells owner (suc i) n)
          → Sorted (cond b (placed image h cells i (sorted_from image h cells owner (suc i) n)) (sorted_from image h cells owner (suc i) n))
      go true rest = placed_sorted i (sorted_from image h cells owner (suc i) n) (greater owner i n) rest
      go false rest = rest

  -- ---- the next of them

  -- in any list in that order, the next after one of its cells is the one that follows
  next_in : (front : List ℕ) (i : ℕ) (rest : List ℕ) → Sorted (front ++ (i ∷ rest)) → next_of image h cells (Some i) (front ++ (i ∷ rest)) ≡ head_of rest
  unfolding next_of
  next_in [] i [] s = rw (not_itself i)
  next_in [] i (j ∷ js) s = rw (not_itself i, s.0 j (Memᴰ.head refl))
  next_in (j ∷ front) i rest s =
      rw (not_both j i (s.0 i (Memᴰ.append_right front (Memᴰ.head refl)))) (next_in front i rest s.1)

  pub next_follows : (owner i : ℕ) (front rest : List ℕ) → sorted_cells image h owner cells ≡ front ++ (i ∷ rest)
      → next_of image h cells (Some i) (sorted_cells image h owner cells) ≡ head_of rest
  next_follows owner i front rest e =
      ap (next_of image h cells (Some i)) e ∙ next_in front i rest (subst Sorted e (sorted owner 0 (length cells)))

  pub next_first : (owner : ℕ) → next_of image h cells None (sorted_cells image h owner cells) ≡ head_of (sorted_cells image h owner cells)
  unfolding next_of
  next_first owner = go (sorted_cells image h owner cells)
    where
      go : (js : List ℕ) → next_of image h cells None js ≡ head_of js
      go [] = refl
      go (j ∷ js) = refl

  -- ---- one cell more to choose from

  module _ (last : Found ℕ) where
    abbrev next : List ℕ → Found ℕ
    next js = found_of (next_of image h cells last js)

    first_of_all : (i : ℕ) (js : List ℕ) → Above i js → first_of image h cells i (next js) ≡ Some i
    unfolding next_of
    first_of_all i [] above = refl
    first_of_all i (j ∷ js) above = go (is_after image h cells last j) (first_of_all i js (λ k m. above k (Memᴰ.tail m)))
      where
        go : (b : Bool) → first_of image h cells i (next js) ≡ Some i → first_of image h cells i (found_of (cond b (some j) (next_of image h cells last js))) ≡ Some i
        go true rest = rw (above j (Memᴰ.head refl))
        go false rest = rest

    next_placed : (i : ℕ) (js : List ℕ) → Greater i js → Sorted js
        → next (placed image h cells i js) ≡ cond (is_after image h cells last i) (first_of image h cells i (next js)) (next js)
    unfolding next_of placed
    next_placed i [] more s = go (is_after image h cells last i)
      where
        go : (b : Bool) → found_of (cond b (some i) none) ≡ cond b (Some i) None
        go true = refl
        go false = refl
    next_placed i (j ∷ js) more s = go (ordered i j) refl (next_placed i js (λ k m. more k (Memᴰ.tail m)) s.1)
      where
        below : precedes image h cells i j ≡ ordered i j
        below = upward i j (more j (Memᴰ.head refl))

        go : (b : Bool) → ordered i j ≡ b
            → next (placed image h cells i js) ≡ cond (is_after image h cells last i) (first_of image h cells i (next js)) (next js)
            → next (cond b (i ∷ j ∷ js) (j ∷ placed image h cells i js))
            ≡ cond (is_after image h cells last i) (first_of image h cells i (next (j ∷ js))) (next (j ∷ js))
        go true e rest =
            let first : Above i (j ∷ js) = λ k m. ⊎_elim (λ q. subst (First i) (sym q) (below ∙ e)) (λ n. first_trans i j k (below ∙ e) (s.0 k n)) (Memᴰ.cases_cons m) in
            rw (first_of_all i (j ∷ js) first) (here (is_after image h cells last i))
          where
            here : (c : Bool) → found_of (cond c (some i) (next_of image h cells last (j ∷ js))) ≡ cond c (Some i) (next (j ∷ js))
            here true = refl
            here false = refl
        go false e rest = there (is_after image h cells last j)
          where
            there : (c : Bool) → found_of (cond c (some j) (next_of image h cells last (placed image h cells i js)))
                ≡ cond (is_after image h cells last i) (first_of image h cells i (found_of (cond c (some j) (next_of image h cells last js)))) (found_of (cond c (some j) (next_of image h cells last js)))
            there true = rw (below ∙ e) (same (is_after image h cells last i))
              where
                same : (d : Bool) → Some j ≡ cond d (Some j) (Some j)
                same true = refl
                same false = refl
            there false = rest

    pub next_more : (owner i n : ℕ)
        → next (sorted_from image h cells owner i (suc n)) ≡ better_of image h cells owner last i (next (sorted_from image h cells owner (suc i) n))
    unfolding sorted_from
    next_more owner i n = go (owns owner (get_or cells i (head 0)))
      where
        go : (b : Bool) → next (cond b (placed image h cells i (sorted_from image h cells owner (suc i) n)) (sorted_from image h cells owner (suc i) n))
            ≡ cond b (cond (is_after image h cells last i) (first_of image h cells i (next (sorted_from image h cells owner (suc i) n))) (next (sorted_from image h cells owner (suc i) n))) (next (sorted_from image h cells owner (suc i) n))
        go true = next_placed i (sorted_from image h cells owner (suc i) n) (greater owner i n) (sorted owner (suc i) n)
        go false = refl
