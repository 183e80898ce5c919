-- Each transition of the machine as a path, for every stack K and store σ, so that no proof above unfolds the machine: entering, each kind, scopes, branches,
-- conditions and loops. Assumes nothing.
-- Where the machine goes on with what a lookup, a write or a building gave, the law is over that outcome x, and its end computes once x is known.
use Prim.Native.Nat.{ℕ, ◌+◌, ◌-◌, ◌≤◌, ◌<◌}
use native.Mathlib.Decide.{dec_lt}
use native.Mathlib.Omega.{arith}
use mathlib.Core.Path.{◌≡◌, refl, ap}
use mathlib.Core.Bool.{Bool, true, false}
use mathlib.Core.List.{List, ◌∷◌}
use mathlib.Core.Option.{Option}
use lib.ListN.{length, get_or-eq_default}
use borrow.Author.Tests.{lt-ltb, le-ltb, eq-eqb, ne_eqb}
use Rattle.packed.specs.declared.layout.Header.{Header}
use Rattle.packed.specs.Layout.{node_at}
use Rattle.rules.specs.declared.Value.{Value}
use Rattle.rules.specs.declared.Value.TheVariants.{Unit as VUnit, Bool as VBool}
use Rattle.rules.specs.declared.Refusal.TheVariants.{Depth, NotConst}
use Rattle.rules.specs.Store.{Store, opened, emptied, closed, sought, declared, as_bool}
use Rattle.std.specs.Prelude.{Result}
use Rattle.rules.specs.declared.Refused.{Refused}
use Rattle.rules.specs.Targets.{Wrote, target_read, target_set, target_assigned}
use Rattle.rules.specs.Building.{Made, literal_value, binary_of}
use Rattle.rules.specs.Machine.{Kind, scope, binary, decl, set, assign, template, name, read, value, branches, loop, break, vec, tuple, object, call, other, kinds, kind_of, takes_more, most_depth}
use Rattle.rules.specs.Machine.{Ctl, enter, enter_body, again, work, instructions, items, arms, turn, test, ret, brk}
use Rattle.rules.specs.Machine.{Frame, left_of, right_of, decl_of, set_of, assign_of, let_of, break_of, instruction_of, end_of, arm_of, condition_of, body_of}
use Rattle.rules.specs.Machine.{going, stop, onward, made, got, wrote, bound, named, worked, arm_told, condition_told, returned, next, cost, takes_at}
use Rattle.rules.specs.Go.{Go}
use Rattle.rules.proofs.Going.{free, take}

-- ---- what the laws are over

-- what is entered, its node and its depth: an expression or a function's body, or a scope that takes once in all
pub data Enters : Ctl → ℕ → ℕ → Type 0 where
  expression : {n d : ℕ} → Enters (enter n d) n d
  body : {n d : ℕ} → Enters (enter_body n d) n d

-- the kinds that wait for one value: for node n at depth d, the node of that value and the frame that waits
pub data Awaits (image : List ℕ) (h : Header) (n d : ℕ) : Kind → ℕ → Frame → Type 0 where
  left : Awaits image h n d binary (node_at image h n).a (left_of n d)
  declaring : Awaits image h n d decl (node_at image h n).a (decl_of n)
  setting : Awaits image h n d set (node_at image h n).b (set_of n)
  assigning : Awaits image h n d assign (node_at image h n).b (assign_of n)
  breaking : ((node_at image h n).a ≡ 0 → ⊥) → Awaits image h n d break (node_at image h n).a (break_of n)

-- the kinds that evaluate items
pub data Gathers : Kind → Type 0 where
  components : Gathers template
  elements : Gathers vec
  members : Gathers tuple
  fields : Gathers object
  parameters : Gathers call

-- a number that is no expression's
pub no_kind : (x : ℕ) → (0 < x → x ≤ 16 → ⊥) → kind_of x ≡ other
unfolding kind_of kinds
no_kind x none = go (dec_lt 0 x)
  where
    go : Dec (0 < x) → kind_of x ≡ other
    go (no l) = let z : x ≡ 0 = omega arith in ap kind_of z
    go (yes l) = get_or-eq_default kinds other {n = x} (omega (arith, none l))

-- ---- where the machine takes

pub entering_takes : {t : Ctl} {n d : ℕ} → Enters t n d → d ≤ most_depth → (K : List Frame) (σ : Store) → (cost (going t K σ) ≡ 1) × (takes_at (going t K σ) ≡ n)
unfolding cost takes_at
entering_takes expression fits K σ = (rw (le-ltb _ _ fits), refl)
entering_takes body fits K σ = (rw (le-ltb _ _ fits), refl)

pub again_takes : (n d : ℕ) (K : List Frame) (σ : Store) → (cost (going (again n d) K σ) ≡ 1) × (takes_at (going (again n d) K σ) ≡ n)
unfolding cost takes_at
again_takes n d K σ = (refl, refl)

module _ {image : List ℕ} {h : Header} {l : ℕ} {K : List Frame} {σ : Store} where
  -- ---- entering

  pub too_deep : {t : Ctl} {n d : ℕ} → Enters t n d → most_depth < d → Go image h l (going t K σ) l (stop Depth n)
  unfolding next cost
  too_deep expression deep = free (rw (lt-ltb _ _ deep)) (rw (lt-ltb _ _ deep))
  too_deep body deep = free (rw (lt-ltb _ _ deep)) (rw (lt-ltb _ _ deep))

  module _ {n d : ℕ} where
    pub entered_once : d ≤ most_depth → (l ≡ 0 → ⊥) → takes_more (kind_of (node_at image h n).kind) ≡ false
        → Go image h l (going (enter n d) K σ) (l - 1) (going (work n d) K σ)
    unfolding next
    entered_once fits enough once = take (entering_takes expression fits K σ).0 enough (rw (le-ltb _ _ fits, once))

    pub entered_first : d ≤ most_depth → (l ≡ 0 → ⊥) → takes_more (kind_of (node_at image h n).kind) ≡ true
        → Go image h l (going (enter n d) K σ) (l - 1) (going (again n d) K σ)
    unfolding next
    entered_first fits enough more = take (entering_takes expression fits K σ).0 enough (rw (le-ltb _ _ fits, more))

    pub entered_again : (l ≡ 0 → ⊥) → Go image h l (going (again n d) K σ) (l - 1) (going (work n d) K σ)
    unfolding next
    entered_again enough = take (again_takes n d K σ).0 enough refl

    pub body_entered_lem : d ≤ most_depth → (l ≡ 0 → ⊥) → Go image h l (going (enter_body n d) K σ) (l - 1) (going (work n d) K σ)
    unfolding next
    body_entered_lem fits enough = take (entering_takes body fits K σ).0 enough (rw (le-ltb _ _ fits))

    -- ---- what each kind does after its takes

    pub scope_opened : kind_of (node_at image h n).kind ≡ scope
        → Go image h l (going (work n d) K σ) l (going (instructions n (node_at image h n).a d σ.scope) K (opened σ))
    unfolding next cost worked
    scope_opened k = free refl (rw k)

    pub value_entered : {m : ℕ} {k : Kind} {f : Frame} → Awaits image h n d k m f → kind_of (node_at image h n).kind ≡ k
        → Go image h l (going (work n d) K σ) l (going (enter m (d + 1)) (f ∷ K) σ)
    unfolding next cost worked
    value_entered left k = free refl (rw k)
    value_entered declaring k = free refl (rw k)
    value_entered setting k = free refl (rw k)
    value_entered assigning k = free refl (rw k)
    value_entered (breaking valued) k = free refl (rw (k, ne_eqb _ _ valued))

    pub bare_break : kind_of (node_at image h n).kind ≡ break → (node_at image h n).a ≡ 0
        → Go image h l (going (work n d) K σ) l (going (brk n VUnit) K σ)
    unfolding next cost worked
    bare_break k bare = free refl (rw (k, eq-eqb _ _ bare))

    pub items_begun : {k : Kind} → Gathers k → kind_of (node_at image h n).kind ≡ k
        → Go image h l (going (work n d) K σ) l (going (items n (node_at image h n).a d (length σ.pending)) K σ)
    unfolding next cost worked
    items_begun components k = free refl (rw k)
    items_begun elements k = free refl (rw k)
    items_begun members k = free refl (rw k)
    items_begun fields k = free refl (rw k)
    items_begun parameters k = free refl (rw k)

    pub name_sought : {x : Option ℕ} → kind_of (node_at image h n).kind ≡ name → sought σ (node_at image h n).tag ≡ x
        → Go image h l (going (work n d) K σ) l (named image h n K σ x)
    unfolding next cost worked
    name_sought k e = free refl (rw (k, e))

    pub target_got : {x : Result Value Refused} → kind_of (node_at image h n).kind ≡ read → target_read image h σ (node_at image h n).a ≡ x
        → Go image h l (going (work n d) K σ) l (got image h K σ x)
    unfolding next cost worked
    target_got k e = free refl (rw (k, e))

    pub literal_given : kind_of (node_at image h n).kind ≡ value
        → Go image h l (going (work n d) K σ) l (going (ret (literal_value image h (node_at image h n).a)) K σ)
    unfolding next cost worked
    literal_given k = free refl (rw k)

    pub branches_begun : kind_of (node_at image h n).kind ≡ branches
        → Go image h l (going (work n d) K σ) l (going (arms n (node_at image h n).a d) K σ)
    unfolding next cost worked
    branches_begun k = free refl (rw k)

    pub loop_opened : kind_of (node_at image h n).kind ≡ loop
        → Go image h l (going (work n d) K σ) l (going (turn n d σ.scope) K (opened σ))
    unfolding next cost worked
    loop_opened k = free refl (rw k)

    pub not_const : kind_of (node_at image h n).kind ≡ other → Go image h l (going (work n d) K σ) l (stop NotConst n)
    unfolding next cost worked
    not_const k = free refl (rw k)

  -- ---- the operands of binary, decl, set and assign are there

  module _ {n : ℕ} {v : Value} where
    pub right_entered : {d : ℕ} → Go image h l (going (ret v) (left_of n d ∷ K) σ) l (going (enter (node_at image h n).b (d + 1)) (right_of n v ∷ K) σ)
    unfolding next cost returned
    right_entered = free refl refl

    pub operation_made : {u : Value} {x : Made} → binary_of image h n u v σ ≡ x → Go image h l (going (ret v) (right_of n u ∷ K) σ) l (made image h K x)
    unfolding next cost returned
    operation_made e = free refl (rw e)

    pub decl_bound : {x : Option Store} → declared σ (node_at image h n).tag v ≡ x
        → Go image h l (going (ret v) (decl_of n ∷ K) σ) l (bound image h n VUnit K x)
    unfolding next cost returned
    decl_bound e = free refl (rw e)

    pub set-wrote : {x : Wrote} → target_set image h σ (node_at image h n).a v ≡ x
        → Go image h l (going (ret v) (set_of n ∷ K) σ) l (wrote image h K x)
    unfolding next cost returned
    set-wrote e = free refl (rw e)

    pub assign_wrote : {x : Wrote} → target_assigned image h σ n (node_at image h n).op (node_at image h n).a v ≡ x
        → Go image h l (going (ret v) (assign_of n ∷ K) σ) l (wrote image h K x)
    unfolding next cost returned
    assign_wrote e = free refl (rw e)

  -- ---- scopes

  module _ {n i d s : ℕ} where
    pub instruction_entered : (i ≡ 0 → ⊥)
        → Go image h l (going (instructions n i d s) K σ) l (going (enter i (d + 1)) (instruction_of n (onward image h i) d s ∷ K) σ)
    unfolding next cost
    instruction_entered more = free refl (rw (ne_eqb _ _ more))

    pub instruction_done : {v : Value} → Go image h l (going (ret v) (instruction_of n i d s ∷ K) σ) l (going (instructions n i d s) K σ)
    unfolding next cost returned
    instruction_done = free refl refl

    pub last_entered : i ≡ 0 → ((node_at image h n).b ≡ 0 → ⊥)
        → Go image h l (going (instructions n i d s) K σ) l (going (enter (node_at image h n).b (d + 1)) (end_of s ∷ K) σ)
    unfolding next cost
    last_entered ended last = free refl (rw (eq-eqb _ _ ended, ne_eqb _ _ last))

    pub no_last : i ≡ 0 → (node_at image h n).b ≡ 0 → Go image h l (going (instructions n i d s) K σ) l (going (ret VUnit) K (closed s σ))
    unfolding next cost
    no_last ended unit = free refl (rw (eq-eqb _ _ ended, eq-eqb _ _ unit))

  pub scope_closed : {s : ℕ} {v : Value} → Go image h l (going (ret v) (end_of s ∷ K) σ) l (going (ret v) K (closed s σ))
  unfolding next cost returned
  scope_closed = free refl refl

  -- ---- branches

  module _ {n i d : ℕ} where
    pub arm_tested : (i ≡ 0 → ⊥)
        → Go image h l (going (arms n i d) K σ) l (going (test (node_at image h i).a d) (arm_of n i d σ.scope ∷ K) (opened σ))
    unfolding next cost
    arm_tested more = free refl (rw (ne_eqb _ _ more))

    pub arm_told_lem : {s : ℕ} {v : Value} {x : Option Bool} → as_bool v ≡ x
        → Go image h l (going (ret v) (arm_of n i d s ∷ K) σ) l (arm_told image h n i d s K σ x)
    unfolding next cost returned
    arm_told_lem e = free refl (rw e)

    pub default_entered : i ≡ 0 → ((node_at image h n).b ≡ 0 → ⊥)
        → Go image h l (going (arms n i d) K σ) l (going (enter_body (node_at image h n).b (d + 1)) K σ)
    unfolding next cost
    default_entered ended default = free refl (rw (eq-eqb _ _ ended, ne_eqb _ _ default))

    pub no_default : i ≡ 0 → (node_at image h n).b ≡ 0 → Go image h l (going (arms n i d) K σ) l (going (ret VUnit) K σ)
    unfolding next cost
    no_default ended unit = free refl (rw (eq-eqb _ _ ended, eq-eqb _ _ unit))

  -- ---- conditions

  module _ {c : ℕ} where
    pub let_entered : {d : ℕ} → (node_at image h c).kind ≡ 20
        → Go image h l (going (test c d) K σ) l (going (enter (node_at image h c).a (d + 1)) (let_of c ∷ K) σ)
    unfolding next cost
    let_entered k = free refl (rw (eq-eqb _ _ k))

    pub condition_entered : {d : ℕ} → ((node_at image h c).kind ≡ 20 → ⊥) → Go image h l (going (test c d) K σ) l (going (enter c (d + 1)) K σ)
    unfolding next cost
    condition_entered k = free refl (rw (ne_eqb _ _ k))

    pub let_ignored : {v : Value} → (node_at image h c).op ≡ 0 → Go image h l (going (ret v) (let_of c ∷ K) σ) l (going (ret (VBool true)) K σ)
    unfolding next cost returned
    let_ignored op = free refl (rw (eq-eqb _ _ op))

    pub let_bound : {v : Value} {x : Option Store} → ((node_at image h c).op ≡ 0 → ⊥) → declared σ (node_at image h c).tag v ≡ x
        → Go image h l (going (ret v) (let_of c ∷ K) σ) l (bound image h c (VBool true) K x)
    unfolding next cost returned
    let_bound op e = free refl (rw (ne_eqb _ _ op, e))

  -- ---- loops

  module _ {n d s : ℕ} where
    pub turn_entered : (node_at image h n).a ≡ 0
        → Go image h l (going (turn n d s) K σ) l (going (enter_body (node_at image h n).b (d + 1)) (body_of n d s σ.scope ∷ K) σ)
    unfolding next cost
    turn_entered bare = free refl (rw (eq-eqb _ _ bare))

    pub turn_tested : ((node_at image h n).a ≡ 0 → ⊥)
        → Go image h l (going (turn n d s) K σ) l (going (test (node_at image h n).a d) (condition_of n d s ∷ K) (emptied σ))
    unfolding next cost
    turn_tested condition = free refl (rw (ne_eqb _ _ condition))

    pub condition_told_lem : {v : Value} {x : Option Bool} → as_bool v ≡ x
        → Go image h l (going (ret v) (condition_of n d s ∷ K) σ) l (condition_told image h n d s K σ x)
    unfolding next cost returned
    condition_told_lem e = free refl (rw e)

    pub body_done : {from : ℕ} {v : Value} → Go image h l (going (ret v) (body_of n d s from ∷ K) σ) l (going (turn n d s) K σ)
    unfolding next cost returned
    body_done = free refl refl
