-- The laws of `first_from`: how a loop goes on with a search, and what the search's answer says. Assumes nothing.
use mathlib.Core.Path.{◌≡◌, refl, sym, ap, ◌∙◌}
use mathlib.Core.Bool.{Bool, true, false, cond}
use Prim.Native.Nat.{ℕ, zero, suc, ◌+◌, ◌-◌, ◌≤◌, ◌<◌}
use native.Mathlib.Nat.{sub_self}
use native.Mathlib.Numerals.{add-one}
use native.Mathlib.Decide.{ℕ_discrete}
use native.Mathlib.Omega.{arith}
use Rattle.std.proofs.Common.{Some, None}
use Rattle.records.specs.First.{first_from, First, Never}

module _ (test : ℕ → Bool) where
  -- ---- a turn of a loop that looks at i and stops at e

  pub start : (i n : ℕ) → first_from test i n ≡ first_from test i (i + n - i)
  start i n = let all : n ≡ i + n - i = omega arith in ap (first_from test i) all

  turn : (i e : ℕ) → i < e → first_from test i (e - i) ≡ cond (test i) (Some i) (first_from test (i + 1) (e - (i + 1)))
  unfolding first_from
  turn i e h =
      let more : e - i ≡ suc (e - (i + 1)) = omega arith in
      ap (first_from test i) more ∙ ap (λ (k : ℕ). cond (test i) (Some i) (first_from test k (e - (i + 1)))) (sym (add-one i))

  pub here : (i e : ℕ) → i < e → test i ≡ true → first_from test i (e - i) ≡ Some i
  here i e h t = turn i e h ∙ rw t

  pub on : (i e : ℕ) → i < e → test i ≡ false → first_from test i (e - i) ≡ first_from test (i + 1) (e - (i + 1))
  on i e h t = turn i e h ∙ rw t

  pub done : (e : ℕ) → first_from test e (e - e) ≡ None
  unfolding first_from
  done e = ap (first_from test e) (sub_self e)

  -- ---- what the answer says, both ways

  step : (i n p : ℕ) → test i ≡ false → First test (suc i) n p → First test i (suc n) p
  step i n p f r =
      record {
        from = omega (arith, r.from);
        within = omega (arith, r.within);
        holds = r.holds;
        none = λ q h l. past q h l (ℕ_discrete q i);
      }
    where
      past : (q : ℕ) → i ≤ q → q < p → Dec (q ≡ i) → test q ≡ false
      past q h l (yes e) = ap test e ∙ f
      past q h l (no e) = r.none q (omega arith) l

  now_or_on : (i n p : ℕ) (b : Bool) → test i ≡ b → (first_from test (suc i) n ≡ Some p → First test (suc i) n p) → cond b (Some i) (first_from test (suc i) n) ≡ Some p → First test i (suc n) p
  now_or_on i n p true t later e =
      let same : i ≡ p = cc in
      record { from = omega arith; within = omega arith; holds = ap test (sym same) ∙ t; none = λ q h l. absurd (omega arith) }
  now_or_on i n p false t later e = step i n p t (later e)

  pub found : (i n p : ℕ) → first_from test i n ≡ Some p → First test i n p
  unfolding first_from
  found i zero p e = let z : ◌≡◌ {A = ℕ} 0 1 = cc in absurd (omega arith)
  found i (suc n) p e = now_or_on i n p (test i) refl (found (suc i) n p) e

  pub is_found : (i n p : ℕ) → First test i n p → first_from test i n ≡ Some p
  unfolding first_from
  is_found i zero p r = absurd (omega (arith, r.from, r.within))
  is_found i (suc n) p r = go (ℕ_discrete p i) (is_found (suc i) n p)
    where
      go : Dec (p ≡ i) → (First test (suc i) n p → first_from test (suc i) n ≡ Some p) → cond (test i) (Some i) (first_from test (suc i) n) ≡ Some p
      go (yes e) later = rw (ap test (sym e) ∙ r.holds) (ap Some (sym e))
      go (no e) later =
          let after : suc i ≤ p = omega (arith, r.from) in
          rw (r.none i (omega arith) after)
          (later (record { from = after; within = omega (arith, r.within); holds = r.holds; none = λ q h l. r.none q (omega arith) l }))

  pub nowhere : (i n : ℕ) → first_from test i n ≡ None → Never test i n
  unfolding first_from
  nowhere i zero e q h l = absurd (omega arith)
  nowhere i (suc n) e q h l = go (test i) refl e (nowhere (suc i) n) (ℕ_discrete q i)
    where
      go : (b : Bool) → test i ≡ b → cond b (Some i) (first_from test (suc i) n) ≡ None → (first_from test (suc i) n ≡ None → Never test (suc i) n) → Dec (q ≡ i) → test q ≡ false
      go true t e later d = let z : ◌≡◌ {A = ℕ} 0 1 = cc in absurd (omega arith)
      go false t e later (yes s) = ap test s ∙ t
      go false t e later (no s) = later e q (omega arith) (omega arith)

  pub is_nowhere : (i n : ℕ) → Never test i n → first_from test i n ≡ None
  unfolding first_from
  is_nowhere i zero f = refl
  is_nowhere i (suc n) f = rw (f i (omega arith) (omega arith)) (is_nowhere (suc i) n (λ q h l. f q (omega arith) (omega arith)))
