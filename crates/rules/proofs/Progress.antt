-- The rules never go on for ever without a take: some number falls with each transition that is none. So a run that never ends takes more than any budget.
-- Assumes nothing.
use mathlib.Core.Path.{◌≡◌, refl, ap, ◌∙◌}
use mathlib.Core.Logic.{◌⊎◌, inl, inr}
use mathlib.Core.Bool.{Bool, true, false, cond, not, ◌||◌}
use mathlib.Core.List.{List, [], ◌∷◌}
use mathlib.Core.Option.{Option, some, none}
use Prim.Native.Nat.{ℕ, zero, suc, ◌+◌, ◌-◌, ◌*◌, ◌≤◌, ◌<◌}
use native.Mathlib.Omega.{arith}
use borrow.Author.Tests.{eqb-false, ltb-true, ne_eqb}
use lib.Dec.{eqb, ltb}
use lib.ListN.{length, drop}
use Rattle.packed.specs.declared.layout.Header.{Header}
use Rattle.packed.specs.Layout.{node_at}
use Rattle.tree.proofs.Below.{node_below}
use Rattle.rules.specs.declared.Value.{Value}
use Rattle.rules.specs.declared.Value.TheVariants.{Unit as VUnit, Bool as VBool, Vec, Tuple, Object}
use Rattle.rules.specs.declared.Answer.TheVariants.{Spent}
use Rattle.rules.specs.declared.Refusal.{Refusal}
use Rattle.rules.specs.declared.Refusal.TheVariants.{Depth, Bindings, Pending, BreakWithValue, ArgumentCount}
use Rattle.rules.specs.Store.{Store, most_bindings, most_pending, opened, emptied, closed, dropped, pushed, taken_cells, as_bool, declared, sought}
use Rattle.std.specs.Prelude.{Result, Ok, Err}
use Rattle.rules.specs.declared.Refused.{Refused}
use Rattle.rules.specs.Targets.{Wrote, done, refused as wrote_not, target_read, target_set, target_assigned}
use Rattle.rules.specs.Building.{Made, gives, refuses, built_text, binary_of, boxed, item_cells, entries, entry_cells, printed, template_text}
use Rattle.rules.specs.Machine.{Kind, scope, binary, decl, set, assign, template, name, read, value, branches, loop, break, vec, tuple, object, call, other, kind_of, takes_more, most_depth, Ctl, enter, enter_body, again, work, instructions, items, arms, turn, test, ret, brk, Frame, left_of, right_of, decl_of, set_of, assign_of, let_of, break_of, instruction_of, end_of, item_of, arm_of, condition_of, body_of, call_of, Cfg, going, stop, ends, onward, whole_chain, made, got, wrote, bound, named, worked, instructed, armed, arm_told, turned, condition_told, accepted, judged, item_node, called, completed, itemised, returned, broken, next, cost}
use Rattle.rules.specs.Runs.{End, refused, finished, iter, costs, NeverEnds, Budgeted, spent}
use Rattle.rules.proofs.Going.{iter_add, costs_add}
use Rattle.rules.proofs.Running.{about_to}

-- what is left of a chain: its nodes go to greater numbers, all below 4096
left : ℕ → ℕ
left i = cond (eqb i 0) 4 (5 + (4096 - i))

-- how far a configuration is from a take or an end: at one, 0; before it, by the frames that may still be left, and by what is to be done
rank : Ctl → ℕ → ℕ
unfolding left
rank (enter n d) k = 0
rank (enter_body n d) k = 0
rank (again n d) k = 0
rank (work n d) k = 5000 + 5000 * k
rank (instructions n i d s) k = 3 + 5000 * k
rank (items n i d p) k = left i + 5000 * k
rank (arms n i d) k = 3 + 5000 * k
rank (turn n d s) k = 3 + 5000 * k
rank (test c d) k = 1
rank (ret v) k = 2 + 5000 * k
rank (brk b v) k = 2 + 5000 * k

far : Cfg → ℕ
unfolding rank
far (stop why place) = 0
far (going t K σ) = rank t (length K)

-- c is an end, or nearer than m
Falls : ℕ → Cfg → Type 0
Falls m c = (End c) ⊎ (far c < m)

-- ---- the ways on

stops : (m : ℕ) (why : Refusal) (place : ℕ) → Falls m (stop why place)
unfolding Falls
stops m why place = inl refused

either : (m : ℕ) (b : Bool) (x y : Cfg) → Falls m x → Falls m y → Falls m (cond b x y)
either m true x y p q = p
either m false x y p q = q

enters : (m n d : ℕ) (K : List Frame) (σ : Store) → 0 < m → Falls m (going (enter n d) K σ)
unfolding Falls far rank
enters m n d K σ l = inr l

bodies : (m n d : ℕ) (K : List Frame) (σ : Store) → 0 < m → Falls m (going (enter_body n d) K σ)
unfolding Falls far rank
bodies m n d K σ l = inr l

tests : (m c d : ℕ) (K : List Frame) (σ : Store) → 1 < m → Falls m (going (test c d) K σ)
unfolding Falls far rank
tests m c d K σ l = inr l

rets : (m : ℕ) (v : Value) (K : List Frame) (σ : Store) → 2 + 5000 * length K < m → Falls m (going (ret v) K σ)
unfolding Falls far rank
rets m v K σ l = inr l

brks : (m b : ℕ) (v : Value) (K : List Frame) (σ : Store) → 2 + 5000 * length K < m → Falls m (going (brk b v) K σ)
unfolding Falls far rank
brks m b v K σ l = inr l

left_small : (i : ℕ) → left i < 4200
unfolding left
left_small i = go (eqb i 0)
  where
    go : (b : Bool) → cond b 4 (5 + (4096 - i)) < 4200
    go true = omega arith
    go false = omega arith

all_items : (m n i d p : ℕ) (K : List Frame) (σ : Store) → 4200 + 5000 * length K ≤ m → Falls m (going (items n i d p) K σ)
unfolding Falls far rank
all_items m n i d p K σ l = inr (omega (arith, left_small i))

threes : (m : ℕ) (K : List Frame) (σ : Store) (t : Ctl) → rank t (length K) ≡ 3 + 5000 * length K → 3 + 5000 * length K < m → Falls m (going t K σ)
unfolding Falls far
threes m K σ t e l = inr (omega (arith, e))

module _ (image : List ℕ) (h : Header) where
  -- a value, a write, a building and a binding leave a value or a stop
  mades : (m : ℕ) (K : List Frame) (x : Made) → 2 + 5000 * length K < m → Falls m (made image h K x)
  mades m K (gives v σ) l = rets m v K σ l
  mades m K (refuses why place) l = stops m why place

  gots : (m : ℕ) (K : List Frame) (σ : Store) (x : Result Value Refused) → 2 + 5000 * length K < m → Falls m (got image h K σ x)
  gots m K σ (Ok v) l = rets m v K σ l
  gots m K σ (Err r) l = stops m r.why r.place

  wrotes : (m : ℕ) (K : List Frame) (x : Wrote) → 2 + 5000 * length K < m → Falls m (wrote image h K x)
  wrotes m K (done σ) l = rets m _ K σ l
  wrotes m K (wrote_not why place) l = stops m why place

  bounds : (m n : ℕ) (v : Value) (K : List Frame) (x : Option Store) → 2 + 5000 * length K < m → Falls m (bound image h n v K x)
  bounds m n v K none l = stops m _ n
  bounds m n v K (some σ) l = rets m v K σ l

  nameds : (m n : ℕ) (K : List Frame) (σ : Store) (x : Option ℕ) → 2 + 5000 * length K < m → Falls m (named image h n K σ x)
  nameds m n K σ none l = stops m _ n
  nameds m n K σ (some i) l = rets m _ K σ l

  -- ---- what each kind does after its takes

  works : (k : Kind) (n d : ℕ) (K : List Frame) (σ : Store) → Falls (5000 + 5000 * length K) (worked image h k n d K σ)
  unfolding worked rank
  works scope n d K σ = threes _ K _ (instructions n (node_at image h n).a d σ.scope) refl (omega arith)
  works binary n d K σ = enters _ _ _ _ _ (omega arith)
  works decl n d K σ = enters _ _ _ _ _ (omega arith)
  works set n d K σ = enters _ _ _ _ _ (omega arith)
  works assign n d K σ = enters _ _ _ _ _ (omega arith)
  works template n d K σ = all_items _ _ _ _ _ K σ (omega arith)
  works name n d K σ = nameds _ n K σ (sought σ (node_at image h n).tag) (omega arith)
  works read n d K σ = gots _ K σ (target_read image h σ (node_at image h n).a) (omega arith)
  works value n d K σ = rets _ _ K σ (omega arith)
  works branches n d K σ = threes _ K _ (arms n (node_at image h n).a d) refl (omega arith)
  works loop n d K σ = threes _ K _ (turn n d σ.scope) refl (omega arith)
  works break n d K σ = either _ (eqb (node_at image h n).a 0) _ _ (brks _ n _ K σ (omega arith)) (enters _ _ _ _ _ (omega arith))
  works vec n d K σ = all_items _ _ _ _ _ K σ (omega arith)
  works tuple n d K σ = all_items _ _ _ _ _ K σ (omega arith)
  works object n d K σ = all_items _ _ _ _ _ K σ (omega arith)
  works call n d K σ = all_items _ _ _ _ _ K σ (omega arith)
  works other n d K σ = stops _ _ n

  -- ---- chains, and what is done when all items are there

  onward_left : (i : ℕ) → (i ≡ 0 → ⊥) → left (onward image h i) < left i
  unfolding left
  onward_left i z =
      let small = (node_below image h i (node_at image h i) refl).2 in
      go (ltb i (node_at image h i).next) refl small
    where
      go : (b : Bool) → ltb i (node_at image h i).next ≡ b → (node_at image h i).next < 4096 → left (cond b (node_at image h i).next 0) < left i
      go true e small =
          let more = ltb-true i (node_at image h i).next e in
          rw (ne_eqb i 0 z, ne_eqb (node_at image h i).next 0 (λ q. absurd (omega arith))) (omega arith)
      go false e small = rw (ne_eqb i 0 z) (omega arith)

  calls : (m n d p body count first : ℕ) (vs : List Value) (K : List Frame) (σ : Store) → 0 < m → Falls m (called image h n d p body count first vs K σ)
  calls m n d p body count first vs K σ l =
      either m (not (eqb (length vs) count)) _ _ (stops m ArgumentCount n)
      (either m (ltb most_bindings (length σ.bindings + count)) _ _ (stops m Bindings n) (enters m body (d + 1) _ _ l))

  completes : (k : Kind) (n d p : ℕ) (vs : List Value) (K : List Frame) (σ : Store) → Falls (3 + 5000 * length K) (completed image h k n d p vs K σ)
  unfolding completed
  completes scope n d p vs K σ = stops _ _ n
  completes binary n d p vs K σ = stops _ _ n
  completes decl n d p vs K σ = stops _ _ n
  completes set n d p vs K σ = stops _ _ n
  completes assign n d p vs K σ = stops _ _ n
  completes template n d p vs K σ =
      mades _ K (built_text image h n (dropped p σ) (template_text image h σ (whole_chain image h (node_at image h n).a) vs)) (omega arith)
  completes name n d p vs K σ = stops _ _ n
  completes read n d p vs K σ = stops _ _ n
  completes value n d p vs K σ = stops _ _ n
  completes branches n d p vs K σ = stops _ _ n
  completes loop n d p vs K σ = stops _ _ n
  completes break n d p vs K σ = stops _ _ n
  completes vec n d p vs K σ = mades _ K (boxed n (Vec (length σ.cells)) (taken_cells (dropped p σ) (item_cells σ vs))) (omega arith)
  completes tuple n d p vs K σ = mades _ K (boxed n (Tuple (length σ.cells)) (taken_cells (dropped p σ) (item_cells σ vs))) (omega arith)
  completes object n d p vs K σ =
      mades _ K (boxed n (Object (length σ.cells)) (taken_cells (dropped p σ) (entry_cells σ (entries image h (whole_chain image h (node_at image h n).a) vs [])))) (omega arith)
  completes call n d p vs K σ = calls _ n d p _ _ _ vs K σ (omega arith)
  completes other n d p vs K σ = stops _ _ n

  -- what falls below one bound falls below a greater one
  wider : (m k : ℕ) (c : Cfg) → m ≤ k → Falls m c → Falls k c
  unfolding Falls
  wider m k c l (inl x) = inl x
  wider m k c l (inr x) = inr (omega arith)

  skips : (n i d p : ℕ) (K : List Frame) (σ : Store) → (i ≡ 0 → ⊥) → Falls (left i + 5000 * length K) (going (items n (onward image h i) d p) K σ)
  unfolding Falls far rank
  skips n i d p K σ z = inr (omega (arith, onward_left i z))

  some_left : (i : ℕ) → 3 < left i
  unfolding left
  some_left i = go (eqb i 0)
    where
      go : (b : Bool) → 3 < cond b 4 (5 + (4096 - i))
      go true = omega arith
      go false = omega arith

  itemises : (n i d p : ℕ) (K : List Frame) (σ : Store) → Falls (left i + 5000 * length K) (itemised image h n i d p K σ)
  itemises n i d p K σ = go (eqb i 0) refl
    where
      m : ℕ
      m = left i + 5000 * length K

      go : (b : Bool) → eqb i 0 ≡ b
          → Falls m (cond b (completed image h (kind_of (node_at image h n).kind) n d p (drop p σ.pending) K σ)
          (cond (eqb (node_at image h i).kind 17) (going (items n (onward image h i) d p) K σ) (going (enter (item_node image h n i) (d + 1)) (item_of n i d p ∷ K) σ)))
      go true e = wider (3 + 5000 * length K) m _ (omega (arith, some_left i)) (completes (kind_of (node_at image h n).kind) n d p (drop p σ.pending) K σ)
      go false e = either m (eqb (node_at image h i).kind 17) _ _ (skips n i d p K σ (eqb-false i 0 e)) (enters m _ _ _ σ (omega (arith, some_left i)))

  -- ---- a value comes to a frame, or a break passes it: there is a frame less

  instructs : (m n i d s : ℕ) (K : List Frame) (σ : Store) → 2 + 5000 * length K < m → Falls m (instructed image h n i d s K σ)
  instructs m n i d s K σ l =
      either m (eqb i 0) _ _
      (either m (eqb (node_at image h n).b 0) _ _ (rets m VUnit K (closed s σ) l) (enters m (node_at image h n).b (d + 1) (end_of s ∷ K) σ (omega arith)))
      (enters m i (d + 1) (instruction_of n (onward image h i) d s ∷ K) σ (omega arith))

  armeds : (m n i d : ℕ) (K : List Frame) (σ : Store) → 2 + 5000 * length K < m → Falls m (armed image h n i d K σ)
  armeds m n i d K σ l =
      either m (eqb i 0) _ _
      (either m (eqb (node_at image h n).b 0) _ _ (rets m VUnit K σ l) (bodies m (node_at image h n).b (d + 1) K σ (omega arith)))
      (tests m (node_at image h i).a d (arm_of n i d σ.scope ∷ K) (opened σ) (omega arith))

  turns : (m n d s : ℕ) (K : List Frame) (σ : Store) → 1 < m → Falls m (turned image h n d s K σ)
  turns m n d s K σ l =
      either m (eqb (node_at image h n).a 0) _ _ (bodies m (node_at image h n).b (d + 1) (body_of n d s σ.scope ∷ K) σ (omega arith))
      (tests m (node_at image h n).a d (condition_of n d s ∷ K) (emptied σ) l)

  tells_arm : (m n i d s : ℕ) (K : List Frame) (σ : Store) (x : Option Bool) → 3 + 5000 * length K < m → Falls m (arm_told image h n i d s K σ x)
  unfolding rank
  tells_arm m n i d s K σ none l = stops m _ _
  tells_arm m n i d s K σ (some true) l = bodies m _ _ _ σ (omega arith)
  tells_arm m n i d s K σ (some false) l = threes m K _ (arms n (onward image h i) d) refl l

  tells_condition : (m n d s : ℕ) (K : List Frame) (σ : Store) (x : Option Bool) → 2 + 5000 * length K < m → Falls m (condition_told image h n d s K σ x)
  tells_condition m n d s K σ none l = stops m _ _
  tells_condition m n d s K σ (some true) l = bodies m _ _ _ σ (omega arith)
  tells_condition m n d s K σ (some false) l = rets m VUnit K _ l

  accepts : (m n i d p : ℕ) (v : Value) (K : List Frame) (σ : Store) → 4200 + 5000 * length K ≤ m → Falls m (accepted image h n i d p v K σ)
  accepts m n i d p v K σ l =
      either m (ltb (length σ.pending) most_pending) _ _ (all_items m n (onward image h i) d p K (pushed v σ) l) (stops m Pending n)

  judges : (m n i d p : ℕ) (v : Value) (K : List Frame) (σ : Store) (x : Option (List ℕ)) → 4200 + 5000 * length K ≤ m → Falls m (judged image h n i d p v K σ x)
  judges m n i d p v K σ none l = stops m _ i
  judges m n i d p v K σ (some bytes) l = accepts m n i d p v K σ l

  returns : (v : Value) (K : List Frame) (σ : Store) → Falls (2 + 5000 * length K) (returned image h v K σ)
  unfolding returned Falls rank
  returns v [] σ = inl finished
  returns v (left_of n d ∷ K) σ = enters _ _ _ _ σ (omega arith)
  returns v (right_of n u ∷ K) σ = mades _ K (binary_of image h n u v σ) (omega arith)
  returns v (decl_of n ∷ K) σ = bounds _ n VUnit K (declared σ (node_at image h n).tag v) (omega arith)
  returns v (set_of n ∷ K) σ = wrotes _ K (target_set image h σ (node_at image h n).a v) (omega arith)
  returns v (assign_of n ∷ K) σ = wrotes _ K (target_assigned image h σ n (node_at image h n).op (node_at image h n).a v) (omega arith)
  returns v (let_of c ∷ K) σ =
      either _ (eqb (node_at image h c).op 0) _ _ (rets _ (VBool true) K σ (omega arith)) (bounds _ c (VBool true) K (declared σ (node_at image h c).tag v) (omega arith))
  returns v (break_of n ∷ K) σ = brks _ n v K σ (omega arith)
  returns v (instruction_of n i d s ∷ K) σ = threes _ K σ (instructions n i d s) refl (omega arith)
  returns v (end_of s ∷ K) σ = rets _ v K (closed s σ) (omega arith)
  returns v (item_of n i d p ∷ K) σ =
      either _ (eqb (node_at image h n).kind 6) _ _ (judges _ n i d p v K σ (printed image h σ v) (omega arith)) (accepts _ n i d p v K σ (omega arith))
  returns v (arm_of n i d s ∷ K) σ = tells_arm _ n i d s K σ (as_bool v) (omega arith)
  returns v (condition_of n d s ∷ K) σ = tells_condition _ n d s K σ (as_bool v) (omega arith)
  returns v (body_of n d s from ∷ K) σ = threes _ K σ (turn n d s) refl (omega arith)
  returns v (call_of s f p ∷ K) σ = rets _ v K _ (omega arith)

  breaks : (b : ℕ) (v : Value) (K : List Frame) (σ : Store) → Falls (2 + 5000 * length K) (broken image h b v K σ)
  unfolding broken
  breaks b v [] σ = stops _ _ b
  breaks b v (left_of n d ∷ K) σ = brks _ b v K σ (omega arith)
  breaks b v (right_of n u ∷ K) σ = brks _ b v K σ (omega arith)
  breaks b v (decl_of n ∷ K) σ = brks _ b v K σ (omega arith)
  breaks b v (set_of n ∷ K) σ = brks _ b v K σ (omega arith)
  breaks b v (assign_of n ∷ K) σ = brks _ b v K σ (omega arith)
  breaks b v (let_of c ∷ K) σ = brks _ b v K σ (omega arith)
  breaks b v (break_of n ∷ K) σ = brks _ b v K σ (omega arith)
  breaks b v (instruction_of n i d s ∷ K) σ = brks _ b v K σ (omega arith)
  breaks b v (end_of s ∷ K) σ = brks _ b v K σ (omega arith)
  breaks b v (item_of n i d p ∷ K) σ = brks _ b v K (dropped p σ) (omega arith)
  breaks b v (arm_of n i d s ∷ K) σ = brks _ b v K σ (omega arith)
  breaks b v (condition_of n d s ∷ K) σ = brks _ b v K σ (omega arith)
  breaks b v (body_of n d s from ∷ K) σ =
      either _ (ends (node_at image h b).tag (node_at image h n).tag) _ _
      (either _ (eqb (node_at image h b).a 0 || eqb (node_at image h n).a 0) _ _ (rets _ v K _ (omega arith)) (stops _ BreakWithValue n))
      (brks _ b v K σ (omega arith))
  breaks b v (call_of s f p ∷ K) σ = stops _ _ b

  -- ---- a transition takes, or falls

  Moves : Cfg → Type 0
  Moves c = (cost c ≡ 1) ⊎ Falls (far c) (next image h c)

  -- entering takes, or is too deep
  deep : (n : ℕ) (x : Cfg) (b : Bool) → (◌≡◌ {A = ℕ} (cond b 0 1) 1) ⊎ Falls 0 (cond b (stop Depth n) x)
  deep n x true = inr (stops 0 Depth n)
  deep n x false = inl refl

  moves : (c : Cfg) → Moves c
  unfolding Moves next cost far rank
  moves (stop why place) = inr (stops 0 why place)
  moves (going (enter n d) K σ) =
      deep n (cond (takes_more (kind_of (node_at image h n).kind)) (going (again n d) K σ) (going (work n d) K σ)) (ltb most_depth d)
  moves (going (enter_body n d) K σ) = deep n (going (work n d) K σ) (ltb most_depth d)
  moves (going (again n d) K σ) = inl refl
  moves (going (work n d) K σ) = inr (works (kind_of (node_at image h n).kind) n d K σ)
  moves (going (instructions n i d s) K σ) = inr (instructs _ n i d s K σ (omega arith))
  moves (going (items n i d p) K σ) = inr (itemises n i d p K σ)
  moves (going (arms n i d) K σ) = inr (armeds _ n i d K σ (omega arith))
  moves (going (turn n d s) K σ) = inr (turns _ n d s K σ (omega arith))
  moves (going (test c d) K σ) =
      inr
      (either 1 (eqb (node_at image h c).kind 20) _ _ (enters 1 (node_at image h c).a (d + 1) (let_of c ∷ K) σ (omega arith))
      (enters 1 c (d + 1) K σ (omega arith)))
  moves (going (ret v) K σ) = inr (returns v K σ)
  moves (going (brk b v) K σ) = inr (breaks b v K σ)

  -- ---- so a take or an end comes, and a run that never ends takes more than any number

  comes : (f : ℕ) (c : Cfg) → far c < f → (t : ℕ) × ((End (iter image h t c)) ⊎ (cost (iter image h t c) ≡ 1))
  unfolding iter Moves Falls
  comes zero c l = absurd (omega arith)
  comes (suc f) c l = go (moves c) (comes f (next image h c))
    where
      go : Moves c → (far (next image h c) < f → (t : ℕ) × ((End (iter image h t (next image h c))) ⊎ (cost (iter image h t (next image h c)) ≡ 1)))
          → (t : ℕ) × ((End (iter image h t c)) ⊎ (cost (iter image h t c) ≡ 1))
      go (inl o) later = (0, inr o)
      go (inr (inl e)) later = (1, inl e)
      go (inr (inr k)) later = let r = later (omega arith) in (suc r.0, r.1)

  goes_on : (c : Cfg) (t : ℕ) → NeverEnds image h c → NeverEnds image h (iter image h t c)
  goes_on c t x =
      record {
        never = λ n e y.
            x.never (costs image h t c + n) e
            (record {
              comes = record {
                transitions = t + y.comes.transitions;
                there = iter_add image h t y.comes.transitions c ∙ y.comes.there;
                takes = costs_add image h t y.comes.transitions c ∙ ap (λ (k : ℕ). costs image h t c + k) y.comes.takes;
              };
              end = y.end;
            });
      }

  -- the next take of a run that never ends
  next_take : (c : Cfg) → NeverEnds image h c → (t : ℕ) × (0 < costs image h t c)
  unfolding costs iter
  next_take c x =
      let r = comes (suc (far c)) c (omega arith) in
      go r.0 r.1
    where
      go : (t : ℕ) → (End (iter image h t c)) ⊎ (cost (iter image h t c) ≡ 1) → (t : ℕ) × (0 < costs image h t c)
      go t (inl e) = absurd (x.never (costs image h t c) (iter image h t c) (record { comes = record { transitions = t; there = refl; takes = refl }; end = e }))
      go t (inr o) = (t + 1, omega (arith, costs_add image h t 1 c, o))

  many : (b : ℕ) (c : Cfg) → NeverEnds image h c → (t : ℕ) × (b < costs image h t c)
  many zero c x = next_take c x
  many (suc b) c x =
      let r = next_take c x in
      let s = many b (iter image h r.0 c) (goes_on c r.0 x) in
      (r.0 + s.0, omega (arith, costs_add image h r.0 s.0 c, r.1, s.1))

  -- demand 3: "If the rules never end, every budget b gives refusal 6 and reports b"
  pub never_ends : (out : List ℕ) (c : Cfg) (b : ℕ) → NeverEnds image h c → (p : ℕ) × Budgeted image h out c b (Spent p b) out
  never_ends out c b x =
      let m = many b c x in
      let r = about_to image h m.0 b c m.1 in
      (r.0, spent r.1)
