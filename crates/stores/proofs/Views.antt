-- The laws of `view`, once for every region and decoder. Assumes nothing.
use mathlib.Core.Path.{◌≡◌, refl, sym, ap, ap₂, ◌∙◌, subst}
use mathlib.Core.Logic.{◌⊎◌, inl, inr, ⊎_elim}
use mathlib.Core.List.{List, [], ◌∷◌, ◌++◌, append_assoc}
use Prim.Native.Nat.{ℕ, zero, suc, ◌+◌, ◌-◌, ◌*◌, ◌≤◌, ◌<◌}
use native.Mathlib.Nat.{le_of_suc-le-suc, not-suc-le-zero, eq-or-lt_of_le, mul-le-mul_left, mul-suc}
use native.Mathlib.Numerals.{add-one}
use native.Mathlib.Omega.{arith}
use Rattle.std.proofs.lemmas.List.{drop-take}
use lib.ListN.{length, get_or, set, take, drop, length-append, get_or-append}
use lib.Seq.{sets, sets-eq, drop-set-lt, drop-set-add, take-set-le, drop_at, take_at, length-take-le, set-append_left, set_at, get_or_at, get_or-take, get_or-drop, take-append-add, drop-drop, take_all, take-append-le}
use Rattle.stores.specs.View.{rec_at, view}

-- a part of a list after a store outside it
part_set : (l : List ℕ) (a s j v : ℕ) → (j < a) ⊎ (a + s ≤ j) → take s (drop a (set l j v)) ≡ take s (drop a l)
part_set l a s j v side =
    ⊎_elim
    (λ h. ap (take s) (drop-set-lt a l j v h))
    (λ h.
    let e : a + (j - a) ≡ j = omega arith in
    ap (λ (k : ℕ). take s (drop a (set l k v))) (sym e)
    ∙ ap (take s) (drop-set-add a l (j - a) v)
    ∙ take-set-le s (drop a l) (j - a) v (omega arith))
    side

-- and after a run of stores
part_apart : (vs l : List ℕ) (a s at : ℕ) → (at + length vs ≤ a) ⊎ (a + s ≤ at) → take s (drop a (sets l at vs)) ≡ take s (drop a l)
part_apart [] l a s at side = refl
part_apart (v ∷ vs) l a s at side =
    part_apart vs (set l at v) a s (suc at) (⊎_elim (λ h. inl (omega arith)) (λ h. inr (omega arith)) side)
    ∙ part_set l a s at v (⊎_elim (λ h. inl (omega arith)) (λ h. inr h) side)

-- the part that a run of stores wrote
part_here : (vs l : List ℕ) (at : ℕ) → at + length vs ≤ length l → take (length vs) (drop at (sets l at vs)) ≡ vs
part_here vs l at h =
    ap (λ (r : List ℕ). take (length vs) (drop at r)) (sets-eq vs l at h ∙ append_assoc (take at l) vs (drop (at + length vs) l))
    ∙ ap (take (length vs)) (drop_at (take at l) (vs ++ drop (at + length vs) l) at (length-take-le at l (omega arith)))
    ∙ take_at vs (drop (at + length vs) l) (length vs) refl

module _ {R : Type 0} (d : List ℕ → R) (base stride : ℕ) where
  pub length-view : (n : ℕ) (l : List ℕ) → length (view d base stride n l) ≡ n
  unfolding view
  length-view zero l = refl
  length-view (suc n) l = length-append (view d base stride n l) (d (rec_at base stride n l) ∷ []) ∙ ap (λ (k : ℕ). k + 1) (length-view n l) ∙ add-one n

  -- one record more
  pub view_more : (n : ℕ) (l : List ℕ) → view d base stride (n + 1) l ≡ view d base stride n l ++ (d (rec_at base stride n l) ∷ [])
  unfolding view
  view_more n l = ap (λ (k : ℕ). view d base stride k l) (add-one n)

  -- a run of stores outside the first n records leaves them
  pub view_apart : (n : ℕ) (l vs : List ℕ) (at : ℕ) → (at + length vs ≤ base) ⊎ (base + stride * n ≤ at) → view d base stride n (sets l at vs) ≡ view d base stride n l
  unfolding view rec_at
  view_apart zero l vs at side = refl
  view_apart (suc n) l vs at side =
      ap₂ (λ (xs ws : List _). xs ++ (d ws ∷ []))
      (view_apart n l vs at (⊎_elim (λ h. inl h) (λ h. inr (omega (arith, mul-suc stride n))) side))
      (part_apart vs l (base + stride * n) stride at (⊎_elim (λ h. inl (omega arith)) (λ h. inr (omega (arith, mul-suc stride n))) side))

  rec_apart : (n : ℕ) (l vs : List ℕ) (at : ℕ) → at + length vs ≤ base + stride * n → rec_at base stride n (sets l at vs) ≡ rec_at base stride n l
  unfolding rec_at
  rec_apart n l vs at h = part_apart vs l (base + stride * n) stride at (inl h)

  -- a record stored after the first n
  pub view_push : (n : ℕ) (l vs : List ℕ) → length vs ≡ stride → base + stride * n + stride ≤ length l
      → view d base stride (n + 1) (sets l (base + stride * n) vs) ≡ view d base stride n l ++ (d vs ∷ [])
  unfolding rec_at
  view_push n l vs e h =
      view_more n (sets l (base + stride * n) vs)
      ∙ ap₂ (λ (xs ws : List _). xs ++ (d ws ∷ []))
      (view_apart n l vs (base + stride * n) (inr (omega arith)))
      (ap (λ (k : ℕ). take k (drop (base + stride * n) (sets l (base + stride * n) vs))) (sym e) ∙ part_here vs l (base + stride * n) (omega arith))

  -- the first words of record i stored anew
  rec_here : (i : ℕ) (l vs : List ℕ) → length vs ≤ stride → base + stride * i + stride ≤ length l
      → rec_at base stride i (sets l (base + stride * i) vs) ≡ vs ++ drop (length vs) (rec_at base stride i l)
  unfolding rec_at
  rec_here i l vs e h =
      let at = base + stride * i in
      let k = length vs in
      let whole : k + (stride - k) ≡ stride = omega arith in
      ap (λ (r : List ℕ). take stride (drop at r)) (sets-eq vs l at (omega arith) ∙ append_assoc (take at l) vs (drop (at + k) l))
      ∙ ap (take stride) (drop_at (take at l) (vs ++ drop (at + k) l) at (length-take-le at l (omega arith)))
      ∙ ap (λ (m : ℕ). take m (vs ++ drop (at + k) l)) (sym whole)
      ∙ take-append-add vs (drop (at + k) l) (stride - k)
      ∙ ap (λ (r : List ℕ). vs ++ take (stride - k) r) (sym (drop-drop k at l))
      ∙ ap (λ (r : List ℕ). vs ++ r) (sym (drop-take k (stride - k) (drop at l)) ∙ ap (λ (m : ℕ). drop k (take m (drop at l))) whole)

  -- record i of the first n: its first words stored anew, the others kept
  pub view_set : (n i : ℕ) (l vs : List ℕ) → i < n → length vs ≤ stride → base + stride * n ≤ length l
      → view d base stride n (sets l (base + stride * i) vs) ≡ set (view d base stride n l) i (d (vs ++ drop (length vs) (rec_at base stride i l)))
  unfolding view
  view_set zero i l vs below e h = absurd (not-suc-le-zero below)
  view_set (suc n) i l vs below e h =
      let x = d (vs ++ drop (length vs) (rec_at base stride i l)) in
      ⊎_elim
      (λ (q : i ≡ n).
      ap₂ (λ (xs ws : List _). xs ++ (d ws ∷ []))
      (view_apart n l vs (base + stride * i) (inr (omega (arith, ap (λ (k : ℕ). stride * k) q))))
      (ap (λ (k : ℕ). rec_at base stride k (sets l (base + stride * i) vs)) (sym q) ∙ rec_here i l vs e (omega (arith, mul-suc stride n, ap (λ (k : ℕ). stride * k) q)))
      ∙ sym (set_at (view d base stride n l) (d (rec_at base stride n l)) [] x i (length-view n l ∙ sym q)))
      (λ (q : i < n).
      ap₂ (λ (xs ws : List _). xs ++ (d ws ∷ []))
      (view_set n i l vs q e (omega (arith, mul-suc stride n)))
      (rec_apart n l vs (base + stride * i) (omega (arith, mul-suc stride i, mul-le-mul_left stride q)))
      ∙ sym (set-append_left (view d base stride n l) (d (rec_at base stride n l) ∷ []) i x (subst (λ (k : ℕ). i < k) (sym (length-view n l)) q)))
      (eq-or-lt_of_le (le_of_suc-le-suc below))

-- record i of the first n, from its words
pub view_get : {R : Type 0} (d : List ℕ → R) (base stride n i : ℕ) (l : List ℕ) (z : R) → i < n → get_or (view d base stride n l) i z ≡ d (rec_at base stride i l)
unfolding view
view_get d base stride zero i l z h = absurd (not-suc-le-zero h)
view_get d base stride (suc n) i l z h =
    ⊎_elim
    (λ (q : i ≡ n).
    get_or_at (view d base stride n l) (d (rec_at base stride n l)) [] z i (length-view d base stride n l ∙ sym q)
    ∙ ap (λ (k : ℕ). d (rec_at base stride k l)) (sym q))
    (λ (q : i < n).
    get_or-append (view d base stride n l) (d (rec_at base stride n l) ∷ []) z i (subst (λ (k : ℕ). i < k) (sym (length-view d base stride n l)) q)
    ∙ view_get d base stride n i l z q)
    (eq-or-lt_of_le (le_of_suc-le-suc h))

-- word k of record i
pub rec_word : (base stride i k : ℕ) (l : List ℕ) → k < stride → get_or (rec_at base stride i l) k 0 ≡ get_or l (base + stride * i + k) 0
unfolding rec_at
rec_word base stride i k l h = get_or-take stride (drop (base + stride * i) l) k 0 h ∙ get_or-drop (base + stride * i) l k 0

-- the first n of k records
pub view_take : {R : Type 0} (d : List ℕ → R) (base stride n k : ℕ) (l : List ℕ) → n ≤ k → take n (view d base stride k l) ≡ view d base stride n l
unfolding view
view_take d base stride n zero l h =
    let none : n ≡ 0 = omega arith in
    ap (λ (j : ℕ). take j (view d base stride 0 l)) none ∙ ap (λ (j : ℕ). view d base stride j l) (sym none)
view_take d base stride n (suc k) l h =
    ⊎_elim
    (λ (q : n ≡ suc k). take_all n (view d base stride (suc k) l) (omega (arith, length-view d base stride (suc k) l)) ∙ ap (λ (j : ℕ). view d base stride j l) (sym q))
    (λ (q : n < suc k).
    take-append-le n (view d base stride k l) (d (rec_at base stride k l) ∷ []) (omega (arith, length-view d base stride k l))
    ∙ view_take d base stride n k l (le_of_suc-le-suc q))
    (eq-or-lt_of_le h)
