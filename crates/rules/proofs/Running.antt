-- Runs: an end is unique, and what every budget makes of a run. Assumes nothing.
use mathlib.Core.Path.{◌≡◌, refl, sym, ap, ◌∙◌, subst}
use mathlib.Core.Logic.{◌⊎◌, inl, inr}
use mathlib.Core.List.{List}
use Prim.Native.Nat.{ℕ, zero, suc, ◌+◌, ◌-◌, ◌≤◌, ◌<◌}
use native.Mathlib.Numerals.{add-one}
use native.Mathlib.Decide.{dec_lt, ℕ_discrete}
use native.Mathlib.Omega.{arith}
use mathlib.Core.Bool.{Bool, true, false, cond}
use lib.Dec.{ltb}
use Rattle.packed.specs.declared.layout.Header.{Header}
use Rattle.numbers.specs.declared.ArithRefusal.TheVariants.{Overflow, Division, ShiftOperand}
use Rattle.rules.specs.declared.Refusal.{Refusal}
use Rattle.rules.specs.declared.Refusal.TheVariants.{Depth, Cells, TextBytes, Bindings, Pending, NotConst, BreakOutside, BreakWithValue, NotBool, Arithmetic, Operands, MissingName, MissingField, MissingIndex, ExpectedType, ArgumentCount, FloatInTemplate, Nesting, Room}
use Rattle.rules.specs.declared.Answer.{Answer}
use Rattle.rules.specs.Answer.{refusal_number, number_of}
use Rattle.rules.specs.Output.{Encoded, bits, nested, full}
use Rattle.rules.specs.declared.Answer.TheVariants.{Spent}
use Rattle.rules.specs.Machine.{enter, enter_body, again, work, instructions, items, arms, turn, test, ret, brk, Cfg, going, stop, returned, next, within, cost, takes_at}
use Rattle.rules.proofs.Going.{iter_add, costs_add}
use Rattle.rules.specs.Runs.{End, refused, finished, iter, costs, Ends, AboutToTake, Answered, stopped, valued, Budgeted, ended, spent, of_encoded, value_encoded}

-- a transition takes once or not at all
within_bit : (d : ℕ) → (within d ≡ 0) ⊎ (within d ≡ 1)
within_bit d = go (ltb 128 d)
  where
    go : (b : Bool) → (◌≡◌ {A = ℕ} (cond b 0 1) 0) ⊎ (◌≡◌ {A = ℕ} (cond b 0 1) 1)
    go true = inl refl
    go false = inr refl

pub cost_bit : (c : Cfg) → (cost c ≡ 0) ⊎ (cost c ≡ 1)
unfolding cost
cost_bit (stop why place) = inl refl
cost_bit (going (enter n d) K σ) = within_bit d
cost_bit (going (enter_body n d) K σ) = within_bit d
cost_bit (going (again n d) K σ) = inr refl
cost_bit (going (work n d) K σ) = inl refl
cost_bit (going (instructions n i d s) K σ) = inl refl
cost_bit (going (items n i d p) K σ) = inl refl
cost_bit (going (arms n i d) K σ) = inl refl
cost_bit (going (turn n d s) K σ) = inl refl
cost_bit (going (test c d) K σ) = inl refl
cost_bit (going (ret v) K σ) = inl refl
cost_bit (going (brk b v) K σ) = inl refl

module _ (image : List ℕ) (h : Header) where
  -- ---- an end stays as it is and takes nothing

  end_stays : (e : Cfg) → End e → next image h e ≡ e
  unfolding next returned
  end_stays e refused = refl
  end_stays e finished = refl

  end_free : (e : Cfg) → End e → cost e ≡ 0
  unfolding cost
  end_free e refused = refl
  end_free e finished = refl

  end_iter : (t : ℕ) (e : Cfg) → End e → iter image h t e ≡ e
  unfolding iter
  end_iter zero e x = refl
  end_iter (suc t) e x = ap (iter image h t) (end_stays e x) ∙ end_iter t e x

  end_costs : (t : ℕ) (e : Cfg) → End e → costs image h t e ≡ 0
  unfolding costs
  end_costs zero e x = refl
  end_costs (suc t) e x = omega (arith, end_free e x, ap (costs image h t) (end_stays e x), end_costs t e x)

  -- a run that goes on after its end has the same end and the same takes
  past_end : (c : Cfg) (i t : ℕ) → i ≤ t → End (iter image h i c) → (iter image h t c ≡ iter image h i c) × (costs image h t c ≡ costs image h i c)
  past_end c i t l x =
      let e : i + (t - i) ≡ t = omega arith in
      let there = ap (λ (k : ℕ). iter image h k c) (sym e) ∙ iter_add image h i (t - i) c ∙ end_iter (t - i) (iter image h i c) x in
      let cost = ap (λ (k : ℕ). costs image h k c) (sym e) ∙ costs_add image h i (t - i) c in
      (there, omega (arith, cost, end_costs (t - i) (iter image h i c) x))

  end_there : {c e : Cfg} {n : ℕ} (x : Ends image h c n e) → End (iter image h x.comes.transitions c)
  end_there {c} {e} {n} x = subst End (sym x.comes.there) x.end

  -- an end is unique
  one_end : (c : Cfg) (n m : ℕ) (e f : Cfg) (x : Ends image h c n e) (y : Ends image h c m f) → x.comes.transitions ≤ y.comes.transitions → (n ≡ m) × (e ≡ f)
  one_end c n m e f x y l =
      let p = past_end c x.comes.transitions y.comes.transitions l (end_there x) in
      (sym x.comes.takes ∙ sym p.1 ∙ y.comes.takes, sym x.comes.there ∙ sym p.0 ∙ y.comes.there)

  pub end_unique : (c : Cfg) (n m : ℕ) (e f : Cfg) → Ends image h c n e → Ends image h c m f → (n ≡ m) × (e ≡ f)
  end_unique c n m e f x y = go (dec_lt y.comes.transitions x.comes.transitions)
    where
      go : Dec (y.comes.transitions < x.comes.transitions) → (n ≡ m) × (e ≡ f)
      go (no l) = one_end c n m e f x y (omega arith)
      go (yes l) = let r = one_end c m n f e y x (omega arith) in (sym r.0, sym r.1)

  -- ---- every number of takes below a run's is reached just before a take

  Soon : Cfg → ℕ → Type 0
  Soon c b = (p : ℕ) × AboutToTake image h c b p

  -- one transition more in front
  prepend : (c : Cfg) (k b : ℕ) → cost c + k ≡ b → Soon (next image h c) k → Soon c b
  unfolding Soon iter costs
  prepend c k b e r =
      let a = r.1 in (
        r.0,
        record {
          at = a.at;
          comes = record { transitions = suc a.comes.transitions; there = a.comes.there; takes = ap (λ (m : ℕ). cost c + m) a.comes.takes ∙ e };
          takes = a.takes;
          place = a.place;
        },
      )

  at_once : (c : Cfg) → cost c ≡ 1 → Soon c 0
  unfolding Soon iter costs
  at_once c o = (takes_at c, record { at = c; comes = record { transitions = 0; there = refl; takes = refl }; takes = o; place = refl })

  first_or_later : (c : Cfg) (b m : ℕ) → b < cost c + m → ((k : ℕ) → k < m → Soon (next image h c) k) → (cost c ≡ 0) ⊎ (cost c ≡ 1) → Dec (b ≡ 0) → Soon c b
  first_or_later c b m l later (inl z) d = prepend c b b (omega arith) (later b (omega arith))
  first_or_later c b m l later (inr o) (yes z) = subst (Soon c) (sym z) (at_once c o)
  first_or_later c b m l later (inr o) (no z) = prepend c (b - 1) b (omega arith) (later (b - 1) (omega arith))

  -- t transitions that take more than b: among them is one that takes after exactly b
  pub about_to : (t b : ℕ) (c : Cfg) → b < costs image h t c → (p : ℕ) × AboutToTake image h c b p
  unfolding costs Soon
  about_to zero b c l = absurd (omega arith)
  about_to (suc t) b c l =
      first_or_later c b (costs image h t (next image h c)) l (λ k. about_to t k (next image h c)) (cost_bit c) (ℕ_discrete b 0)

  -- ---- demand 3: an end after n steps is what every budget of n or more gives, and every smaller one is spent

  pub enough : (out : List ℕ) (c : Cfg) (n b : ℕ) (e : Cfg) (answer : Answer) (after : List ℕ) → Ends image h c n e → n ≤ b → Answered image h out e n answer after → Budgeted image h out c b answer after
  enough out c n b e answer after x l a = ended x l a

  pub too_few : (out : List ℕ) (c : Cfg) (n b : ℕ) (e : Cfg) → Ends image h c n e → b < n → (p : ℕ) × Budgeted image h out c b (Spent p b) out
  too_few out c n b e x l =
      let r = about_to x.comes.transitions b c (omega (arith, x.comes.takes)) in
      (r.0, spent r.1)

  -- ---- a budget admits one answer only

  costs_grow : (i j : ℕ) (c : Cfg) → i ≤ j → costs image h i c ≤ costs image h j c
  costs_grow i j c l =
      let e : i + (j - i) ≡ j = omega arith in
      omega (arith, ap (λ (k : ℕ). costs image h k c) (sym e) ∙ costs_add image h i (j - i) c)

  -- once the take is made, there is one more
  taken : (c : Cfg) (b p : ℕ) (x : AboutToTake image h c b p) → costs image h (suc x.comes.transitions) c ≡ suc b
  unfolding costs iter
  taken c b p x =
      let t = x.comes.transitions in
      let one = ap (λ (d : Cfg). cost d) x.comes.there ∙ x.takes in
      let all = ap (λ (k : ℕ). costs image h k c) (sym (add-one t)) ∙ costs_add image h t 1 c in
      omega (arith, all, one, x.comes.takes)

  end_or_take : (c : Cfg) (n b p : ℕ) (e : Cfg) → Ends image h c n e → n ≤ b → AboutToTake image h c b p → ⊥
  end_or_take c n b p e x l y = go (dec_lt y.comes.transitions x.comes.transitions)
    where
      go : Dec (y.comes.transitions < x.comes.transitions) → ⊥
      go (yes later) = omega (arith, costs_grow (suc y.comes.transitions) x.comes.transitions c later, taken c b p y, x.comes.takes)
      go (no earlier) =
          let there = (past_end c x.comes.transitions y.comes.transitions (omega arith) (end_there x)).0 in
          let free = end_free (iter image h x.comes.transitions c) (end_there x) in
          let same = ap cost (sym y.comes.there ∙ there) in
          omega (arith, y.takes, same, free)

  earlier : (c : Cfg) (b p q : ℕ) (x : AboutToTake image h c b p) (y : AboutToTake image h c b q) → x.comes.transitions < y.comes.transitions → ⊥
  earlier c b p q x y l = omega (arith, costs_grow (suc x.comes.transitions) y.comes.transitions c l, taken c b p x, y.comes.takes)

  one_place : (c : Cfg) (b p q : ℕ) → AboutToTake image h c b p → AboutToTake image h c b q → p ≡ q
  one_place c b p q x y = go (dec_lt x.comes.transitions y.comes.transitions) (dec_lt y.comes.transitions x.comes.transitions)
    where
      go : Dec (x.comes.transitions < y.comes.transitions) → Dec (y.comes.transitions < x.comes.transitions) → p ≡ q
      go (yes l) _ = absurd (earlier c b p q x y l)
      go (no l) (yes m) = absurd (earlier c b q p y x m)
      go (no l) (no m) =
          let same : x.comes.transitions ≡ y.comes.transitions = omega arith in
          sym x.place ∙ ap takes_at (sym x.comes.there ∙ ap (λ (t : ℕ). iter image h t c) same ∙ y.comes.there) ∙ y.place

  answered_once : (out : List ℕ) (e : Cfg) (n : ℕ) (a b : Answer) (x y : List ℕ) → Answered image h out e n a x → Answered image h out e n b y → (a ≡ b) × (x ≡ y)
  answered_once out e n a b x y stopped stopped = (refl, refl)
  answered_once out e n a b x y valued valued = (refl, refl)

  pub budget_once : (out : List ℕ) (c : Cfg) (b : ℕ) (a a' : Answer) (x x' : List ℕ) → Budgeted image h out c b a x → Budgeted image h out c b a' x' → (a ≡ a') × (x ≡ x')
  budget_once out c b a a' x x' (ended {n = n} {e = e} p l r) (ended {n = m} {e = f} q k s) =
      let same = end_unique c n m e f p q in
      answered_once out e n a a' x x' r
      (subst (λ (i : ℕ). Answered image h out e i a' x') (sym same.0) (subst (λ (d : Cfg). Answered image h out d m a' x') (sym same.1) s))
  budget_once out c b a a' x x' (ended {n = n} {e = e} p l r) (spent {p = place} q) = absurd (end_or_take c n b place e p l q)
  budget_once out c b a a' x x' (spent {p = place} q) (ended {n = n} {e = e} p l r) = absurd (end_or_take c n b place e p l q)
  budget_once out c b a a' x x' (spent {p = p} q) (spent {p = p'} q') = (ap (λ (k : ℕ). Spent k b) (one_place c b p p' q q'), refl)

  -- a budget that was spent is a first part of every longer run: an end comes only after more takes
  pub first_part_lem : (c : Cfg) (b p n : ℕ) (e : Cfg) → AboutToTake image h c b p → Ends image h c n e → b < n
  first_part_lem c b p n e x y = go (dec_lt b n)
    where
      go : Dec (b < n) → b < n
      go (yes l) = l
      go (no l) = absurd (end_or_take c n b p e y (omega arith) x)

  -- ---- refusal 6 is given in no other case

  stopped_is_not_6 : (why : Refusal) → refusal_number why ≡ 6 → ⊥
  stopped_is_not_6 Depth e = omega arith
  stopped_is_not_6 Cells e = omega arith
  stopped_is_not_6 TextBytes e = omega arith
  stopped_is_not_6 Bindings e = omega arith
  stopped_is_not_6 Pending e = omega arith
  stopped_is_not_6 NotConst e = omega arith
  stopped_is_not_6 BreakOutside e = omega arith
  stopped_is_not_6 BreakWithValue e = omega arith
  stopped_is_not_6 NotBool e = omega arith
  stopped_is_not_6 (Arithmetic Overflow) e = omega arith
  stopped_is_not_6 (Arithmetic Division) e = omega arith
  stopped_is_not_6 (Arithmetic ShiftOperand) e = omega arith
  stopped_is_not_6 Operands e = omega arith
  stopped_is_not_6 MissingName e = omega arith
  stopped_is_not_6 MissingField e = omega arith
  stopped_is_not_6 MissingIndex e = omega arith
  stopped_is_not_6 ExpectedType e = omega arith
  stopped_is_not_6 ArgumentCount e = omega arith
  stopped_is_not_6 FloatInTemplate e = omega arith
  stopped_is_not_6 Nesting e = omega arith
  stopped_is_not_6 Room e = omega arith

  written_is_not_6 : (n : ℕ) (x : Encoded) → number_of (of_encoded image h n x) ≡ 6 → ⊥
  written_is_not_6 n (bits bs) e = omega arith
  written_is_not_6 n nested e = omega arith
  written_is_not_6 n full e = omega arith

  answered_is_not_6 : (out : List ℕ) (e : Cfg) (n : ℕ) (answer : Answer) (after : List ℕ) → Answered image h out e n answer after → number_of answer ≡ 6 → ⊥
  answered_is_not_6 out e n answer after (stopped {why = why}) q = stopped_is_not_6 why q
  answered_is_not_6 out e n answer after (valued {v = v} {σ = σ}) q = written_is_not_6 n (value_encoded image h out v σ) q

  pub six_is_spent : (out : List ℕ) (c : Cfg) (b : ℕ) (answer : Answer) (after : List ℕ) → Budgeted image h out c b answer after → number_of answer ≡ 6
      → (p : ℕ) × AboutToTake image h c b p × (answer ≡ Spent p b)
  six_is_spent out c b answer after (ended {n = n} {e = e} x l a) q = absurd (answered_is_not_6 out e n answer after a q)
  six_is_spent out c b answer after (spent {p = p} x) q = (p, x, refl)
