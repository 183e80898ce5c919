-- The rules of 01 as a machine: a total function on configurations, with no budget in it.
-- A configuration is what is to be done (`Ctl`), the frames that wait for it (`Frame`) and the store; or a stop with a refusal and its place.
-- `next` is one transition, `cost` 1 where it is a take. A stop, and a value with no frame left, stay as they are.
use Rattle.std.specs.Prelude.{Result, Ok, Err, ℕ, zero, suc, ◌+◌, Bool, true, false, not, ◌||◌, cond, List, [], ◌∷◌, ◌++◌, ltb, eqb, length, get_or, take, drop}
use Rattle.std.proofs.Math.Option.{Option, some, none}
use Rattle.packed.specs.declared.layout.Header.{Header}
use Rattle.packed.specs.Layout.{node_at, function_at}
use Rattle.rules.specs.declared.Value.{Value}
use Rattle.rules.specs.declared.Value.TheVariants.{Unit as VUnit, Bool as VBool, Vec, Tuple, Object}
use Rattle.rules.specs.declared.Refusal.{Refusal}
use Rattle.rules.specs.declared.Refusal.TheVariants.{Depth, Bindings, Pending, NotConst, BreakOutside, BreakWithValue, NotBool, MissingName, ArgumentCount}
use Rattle.rules.specs.Store.{Store, most_bindings, most_pending, with_scope, with_floor, with_bindings, opened, emptied, closed, sought, bound_at, declared, arguments, pushed, dropped, taken_cells, as_bool, as_float}
use Rattle.rules.specs.declared.Refused.{Refused}
use Rattle.rules.specs.Targets.{Wrote, done, refused, target_read, target_set, target_assigned}
use Rattle.rules.specs.Building.{Made, gives, refuses, literal_value, built_text, binary_of, boxed, item_cells, entries, entry_cells, printed, unprinted, template_text}

-- ---- kinds

-- the kinds that are expressions, 1 to 16; any other number is none
pub data Kind : Type 0 where
  scope binary decl set assign template name read value branches loop break vec tuple object call other : Kind

unfoldable pub kinds : List Kind
kinds =
    other ∷ scope ∷ binary ∷ decl ∷ set ∷ assign ∷ template ∷ name ∷ read ∷ value ∷ branches ∷ loop ∷ break ∷ vec ∷ tuple ∷ object ∷ call ∷ []

unfoldable pub kind_of : ℕ → Kind
kind_of kind = get_or kinds kind other

-- "scope, binary, decl, set, assign, template, loop and break take once more"
abbrev pub takes_more : Kind → Bool
takes_more scope = true
takes_more binary = true
takes_more decl = true
takes_more set = true
takes_more assign = true
takes_more template = true
takes_more name = false
takes_more read = false
takes_more value = false
takes_more branches = false
takes_more loop = true
takes_more break = true
takes_more vec = false
takes_more tuple = false
takes_more object = false
takes_more call = false
takes_more other = false

-- "Depth: the root is 1, a nested expression or body one more; 129 is 7"
abbrev pub most_depth : ℕ
most_depth = 128

-- "A break in the body ends the loop if the labels are equal, none being equal to none only"; label 0 is none
abbrev pub ends : ℕ → ℕ → Bool
ends break_label loop_label = eqb break_label loop_label

-- ---- configurations

-- What is to be done. n is a node and d its depth; i is what is left of a chain.
pub data Ctl : Type 0 where
  -- an expression or a function's body, before its first take; a scope that is an arm's, a default or a loop's body
  enter : ℕ → ℕ → Ctl
  enter_body : ℕ → ℕ → Ctl
  -- before its second take, and after its takes
  again : ℕ → ℕ → Ctl
  work : ℕ → ℕ → Ctl
  -- the instructions of a scope from i on; the scope before it begins at the last number
  instructions : ℕ → ℕ → ℕ → ℕ → Ctl
  -- the items of a vec, tuple, object, call or template from i on, and how many were pending before its own
  items : ℕ → ℕ → ℕ → ℕ → Ctl
  -- the arms of branches from i on
  arms : ℕ → ℕ → ℕ → Ctl
  -- a loop's next turn; the scope before its own begins at the last number
  turn : ℕ → ℕ → ℕ → Ctl
  -- a condition, in an expression at depth d
  test : ℕ → ℕ → Ctl
  -- a value goes to the frame that waits for it; a break, by its node and value, goes outward
  ret : Value → Ctl
  brk : ℕ → Value → Ctl

-- What waits for a value.
pub data Frame : Type 0 where
  -- binary n at depth d waits for its left operand; for its right one, with the left one's value
  left_of : ℕ → ℕ → Frame
  right_of : ℕ → Value → Frame
  -- decl, set, assign, let condition and break wait for their value
  decl_of : ℕ → Frame
  set_of : ℕ → Frame
  assign_of : ℕ → Frame
  let_of : ℕ → Frame
  break_of : ℕ → Frame
  -- an instruction is being evaluated, with those from i on left
  instruction_of : ℕ → ℕ → ℕ → ℕ → Frame
  -- the value ends a scope; the one before it begins at that number
  end_of : ℕ → Frame
  -- item i is being evaluated
  item_of : ℕ → ℕ → ℕ → ℕ → Frame
  -- the condition of arm i, with the scope before the arm's own
  arm_of : ℕ → ℕ → ℕ → ℕ → Frame
  -- the condition of a loop, and its body, with the scope before its own, and for the body where its own begins
  condition_of : ℕ → ℕ → ℕ → Frame
  body_of : ℕ → ℕ → ℕ → ℕ → Frame
  -- a function's body, with scope, floor and pending of the caller
  call_of : ℕ → ℕ → ℕ → Frame

pub data Cfg : Type 0 where
  going : Ctl → List Frame → Store → Cfg
  stop : Refusal → ℕ → Cfg

module _ (image : List ℕ) (h : Header) where
  -- "Chains run by next", which goes to a greater number
  abbrev pub onward : ℕ → ℕ
  onward i = cond (ltb i (node_at image h i).next) (node_at image h i).next 0

  -- the nodes of a chain from i on, at most so many
  unfoldable pub chain : ℕ → ℕ → List ℕ
  chain zero i = []
  chain (suc most) i = cond (eqb i 0) [] (i ∷ chain most (onward i))

  abbrev pub whole_chain : ℕ → List ℕ
  whole_chain i = chain h.nodes i

  -- ---- what a value, a write or a building leaves to do

  abbrev pub made : List Frame → Made → Cfg
  made K (gives v σ) = going (ret v) K σ
  made K (refuses why place) = stop why place

  abbrev pub got : List Frame → Store → Result Value Refused → Cfg
  got K σ (Ok v) = going (ret v) K σ
  got K σ (Err r) = stop r.why r.place

  -- "Set, assign and decl give unit"
  abbrev pub wrote : List Frame → Wrote → Cfg
  wrote K (done σ) = going (ret VUnit) K σ
  wrote K (refused why place) = stop why place

  -- a decl gives unit, and a let condition that binds "always holds"
  abbrev pub bound : ℕ → Value → List Frame → Option Store → Cfg
  bound n v K none = stop Bindings n
  bound n v K (some σ) = going (ret v) K σ

  -- ---- entering

  -- "Entering an expression or body tests depth, then takes once"
  abbrev pub entered : ℕ → ℕ → List Frame → Store → Cfg
  entered n d K σ =
      cond (ltb most_depth d) (stop Depth n)
      (cond (takes_more (kind_of (node_at image h n).kind)) (going (again n d) K σ) (going (work n d) K σ))

  -- "A scope that is an arm's, a default, or a loop's body takes once in all"
  abbrev pub body_entered : ℕ → ℕ → List Frame → Store → Cfg
  body_entered n d K σ = cond (ltb most_depth d) (stop Depth n) (going (work n d) K σ)

  -- ---- what each kind does after its takes

  abbrev pub named : ℕ → List Frame → Store → Option ℕ → Cfg
  named n K σ none = stop MissingName n
  named n K σ (some i) = going (ret (bound_at σ i)) K σ

  unfoldable pub worked : Kind → ℕ → ℕ → List Frame → Store → Cfg
  worked scope n d K σ = going (instructions n (node_at image h n).a d σ.scope) K (opened σ)
  worked binary n d K σ = going (enter (node_at image h n).a (d + 1)) (left_of n d ∷ K) σ
  worked decl n d K σ = going (enter (node_at image h n).a (d + 1)) (decl_of n ∷ K) σ
  worked set n d K σ = going (enter (node_at image h n).b (d + 1)) (set_of n ∷ K) σ
  worked assign n d K σ = going (enter (node_at image h n).b (d + 1)) (assign_of n ∷ K) σ
  worked template n d K σ = going (items n (node_at image h n).a d (length σ.pending)) K σ
  worked name n d K σ = named n K σ (sought σ (node_at image h n).tag)
  worked read n d K σ = got K σ (target_read image h σ (node_at image h n).a)
  worked value n d K σ = going (ret (literal_value image h (node_at image h n).a)) K σ
  worked branches n d K σ = going (arms n (node_at image h n).a d) K σ
  worked loop n d K σ = going (turn n d σ.scope) K (opened σ)
  worked break n d K σ =
      cond (eqb (node_at image h n).a 0) (going (brk n VUnit) K σ)
      (going (enter (node_at image h n).a (d + 1)) (break_of n ∷ K) σ)
  worked vec n d K σ = going (items n (node_at image h n).a d (length σ.pending)) K σ
  worked tuple n d K σ = going (items n (node_at image h n).a d (length σ.pending)) K σ
  worked object n d K σ = going (items n (node_at image h n).a d (length σ.pending)) K σ
  worked call n d K σ = going (items n (node_at image h n).a d (length σ.pending)) K σ
  worked other n d K σ = stop NotConst n

  -- ---- scopes

  -- the instructions, then the last expression if there is one, else unit
  abbrev pub instructed : ℕ → ℕ → ℕ → ℕ → List Frame → Store → Cfg
  instructed n i d s K σ =
      cond (eqb i 0)
      (cond (eqb (node_at image h n).b 0) (going (ret VUnit) K (closed s σ)) (going (enter (node_at image h n).b (d + 1)) (end_of s ∷ K) σ))
      (going (enter i (d + 1)) (instruction_of n (onward i) d s ∷ K) σ)

  -- ---- branches: "each arm in a scope of its own; the default without one more; no arm and no default gives unit"

  abbrev pub armed : ℕ → ℕ → ℕ → List Frame → Store → Cfg
  armed n i d K σ =
      cond (eqb i 0)
      (cond (eqb (node_at image h n).b 0) (going (ret VUnit) K σ) (going (enter_body (node_at image h n).b (d + 1)) K σ))
      (going (test (node_at image h i).a d) (arm_of n i d σ.scope ∷ K) (opened σ))

  -- "A condition that isn't bool is 15", at the condition
  abbrev pub arm_told : ℕ → ℕ → ℕ → ℕ → List Frame → Store → Option Bool → Cfg
  arm_told n i d s K σ none = stop NotBool (node_at image h i).a
  arm_told n i d s K σ (some true) = going (enter_body (node_at image h i).b (d + 1)) (end_of s ∷ K) σ
  arm_told n i d s K σ (some false) = going (arms n (onward i) d) K (closed s σ)

  -- ---- conditions: a let condition evaluates its value, and binds it or not

  abbrev pub tested : ℕ → ℕ → List Frame → Store → Cfg
  tested c d K σ =
      cond (eqb (node_at image h c).kind 20) (going (enter (node_at image h c).a (d + 1)) (let_of c ∷ K) σ)
      (going (enter c (d + 1)) K σ)

  abbrev pub let_told : ℕ → Value → List Frame → Store → Cfg
  let_told c v K σ =
      cond (eqb (node_at image h c).op 0) (going (ret (VBool true)) K σ)
      (bound c (VBool true) K (declared σ (node_at image h c).tag v))

  -- ---- loops: "opens a scope, emptied before each condition"

  abbrev pub turned : ℕ → ℕ → ℕ → List Frame → Store → Cfg
  turned n d s K σ =
      cond (eqb (node_at image h n).a 0)
      (going (enter_body (node_at image h n).b (d + 1)) (body_of n d s σ.scope ∷ K) σ)
      (going (test (node_at image h n).a d) (condition_of n d s ∷ K) (emptied σ))

  abbrev pub condition_told : ℕ → ℕ → ℕ → List Frame → Store → Option Bool → Cfg
  condition_told n d s K σ none = stop NotBool (node_at image h n).a
  condition_told n d s K σ (some true) = going (enter_body (node_at image h n).b (d + 1)) (body_of n d s σ.scope ∷ K) σ
  condition_told n d s K σ (some false) = going (ret VUnit) K (closed s σ)

  -- break b reaches the body of loop n: "The loop then drops every scope opened since its own. A value from a break is the loop's,
  -- but 14 if there is a condition"
  abbrev pub body_broken : ℕ → Value → ℕ → ℕ → ℕ → List Frame → Store → Cfg
  body_broken b v n s from K σ =
      cond (ends (node_at image h b).tag (node_at image h n).tag)
      (cond (eqb (node_at image h b).a 0 || eqb (node_at image h n).a 0)
      (going (ret v) K (with_scope s (with_bindings (take from σ.bindings) σ)))
      (stop BreakWithValue n))
      (going (brk b v) K σ)

  -- ---- items: evaluated, in a template judged, and left pending

  -- the expression of item i: an entry's value, or the item itself
  abbrev pub item_node : ℕ → ℕ → ℕ
  item_node n i = cond (eqb (node_at image h n).kind 15) (node_at image h i).b i

  -- "512 pending: evaluated and accepted items, kind 17 not counted; the 513th is 11 at once"
  abbrev pub accepted : ℕ → ℕ → ℕ → ℕ → Value → List Frame → Store → Cfg
  accepted n i d p v K σ =
      cond (ltb (length σ.pending) most_pending) (going (items n (onward i) d p) K (pushed v σ)) (stop Pending n)

  -- "each component is judged as soon as it is evaluated"
  abbrev pub judged : ℕ → ℕ → ℕ → ℕ → Value → List Frame → Store → Option (List ℕ) → Cfg
  judged n i d p v K σ none = stop (unprinted (as_float v)) i
  judged n i d p v K σ (some bytes) = accepted n i d p v K σ

  abbrev pub item_told : ℕ → ℕ → ℕ → ℕ → Value → List Frame → Store → Cfg
  item_told n i d p v K σ =
      cond (eqb (node_at image h n).kind 6) (judged n i d p v K σ (printed image h σ v)) (accepted n i d p v K σ)

  -- ---- when all items are there; "taken after the last operand", and what was pending is given back

  -- "Call: arguments first, then the count (24), then their bindings (10), then the body"
  abbrev pub called : ℕ → ℕ → ℕ → ℕ → ℕ → ℕ → List Value → List Frame → Store → Cfg
  called n d p body count first vs K σ =
      cond (not (eqb (length vs) count)) (stop ArgumentCount n)
      (cond (ltb most_bindings (length σ.bindings + count)) (stop Bindings n)
      (going (enter body (d + 1)) (call_of σ.scope σ.floor p ∷ K)
      (with_floor (length σ.bindings) (with_bindings (σ.bindings ++ arguments first vs) (opened σ)))))

  unfoldable pub completed : Kind → ℕ → ℕ → ℕ → List Value → List Frame → Store → Cfg
  completed scope n d p vs K σ = stop NotConst n
  completed binary n d p vs K σ = stop NotConst n
  completed decl n d p vs K σ = stop NotConst n
  completed set n d p vs K σ = stop NotConst n
  completed assign n d p vs K σ = stop NotConst n
  completed template n d p vs K σ = made K (built_text image h n (dropped p σ) (template_text image h σ (whole_chain (node_at image h n).a) vs))
  completed name n d p vs K σ = stop NotConst n
  completed read n d p vs K σ = stop NotConst n
  completed value n d p vs K σ = stop NotConst n
  completed branches n d p vs K σ = stop NotConst n
  completed loop n d p vs K σ = stop NotConst n
  completed break n d p vs K σ = stop NotConst n
  completed vec n d p vs K σ = made K (boxed n (Vec (length σ.cells)) (taken_cells (dropped p σ) (item_cells σ vs)))
  completed tuple n d p vs K σ = made K (boxed n (Tuple (length σ.cells)) (taken_cells (dropped p σ) (item_cells σ vs)))
  completed object n d p vs K σ =
      made K (boxed n (Object (length σ.cells)) (taken_cells (dropped p σ) (entry_cells σ (entries image h (whole_chain (node_at image h n).a) vs []))))
  completed call n d p vs K σ =
      called n d p (function_at image (node_at image h n).tag).body (function_at image (node_at image h n).tag).count (function_at image (node_at image h n).tag).first vs K σ
  completed other n d p vs K σ = stop NotConst n

  -- kind 17 takes nothing and is not evaluated
  abbrev pub itemised : ℕ → ℕ → ℕ → ℕ → List Frame → Store → Cfg
  itemised n i d p K σ =
      cond (eqb i 0) (completed (kind_of (node_at image h n).kind) n d p (drop p σ.pending) K σ)
      (cond (eqb (node_at image h i).kind 17) (going (items n (onward i) d p) K σ)
      (going (enter (item_node n i) (d + 1)) (item_of n i d p ∷ K) σ))

  -- ---- a value comes to the frame that waits for it

  unfoldable pub returned : Value → List Frame → Store → Cfg
  returned v [] σ = going (ret v) [] σ
  returned v (left_of n d ∷ K) σ = going (enter (node_at image h n).b (d + 1)) (right_of n v ∷ K) σ
  returned v (right_of n u ∷ K) σ = made K (binary_of image h n u v σ)
  returned v (decl_of n ∷ K) σ = bound n VUnit K (declared σ (node_at image h n).tag v)
  returned v (set_of n ∷ K) σ = wrote K (target_set image h σ (node_at image h n).a v)
  returned v (assign_of n ∷ K) σ = wrote K (target_assigned image h σ n (node_at image h n).op (node_at image h n).a v)
  returned v (let_of c ∷ K) σ = let_told c v K σ
  returned v (break_of n ∷ K) σ = going (brk n v) K σ
  returned v (instruction_of n i d s ∷ K) σ = going (instructions n i d s) K σ
  returned v (end_of s ∷ K) σ = going (ret v) K (closed s σ)
  returned v (item_of n i d p ∷ K) σ = item_told n i d p v K σ
  returned v (arm_of n i d s ∷ K) σ = arm_told n i d s K σ (as_bool v)
  returned v (condition_of n d s ∷ K) σ = condition_told n d s K σ (as_bool v)
  returned v (body_of n d s from ∷ K) σ = going (turn n d s) K σ
  returned v (call_of s f p ∷ K) σ = going (ret v) K (dropped p (with_floor f (closed s σ)))

  -- ---- a break goes outward: "A break in the condition always goes outward"; "a break inside it wins"; "A break that reaches a body or the
  -- root is 13", at the break

  unfoldable pub broken : ℕ → Value → List Frame → Store → Cfg
  broken b v [] σ = stop BreakOutside b
  broken b v (left_of n d ∷ K) σ = going (brk b v) K σ
  broken b v (right_of n u ∷ K) σ = going (brk b v) K σ
  broken b v (decl_of n ∷ K) σ = going (brk b v) K σ
  broken b v (set_of n ∷ K) σ = going (brk b v) K σ
  broken b v (assign_of n ∷ K) σ = going (brk b v) K σ
  broken b v (let_of c ∷ K) σ = going (brk b v) K σ
  broken b v (break_of n ∷ K) σ = going (brk b v) K σ
  broken b v (instruction_of n i d s ∷ K) σ = going (brk b v) K σ
  broken b v (end_of s ∷ K) σ = going (brk b v) K σ
  broken b v (item_of n i d p ∷ K) σ = going (brk b v) K (dropped p σ)
  broken b v (arm_of n i d s ∷ K) σ = going (brk b v) K σ
  broken b v (condition_of n d s ∷ K) σ = going (brk b v) K σ
  broken b v (body_of n d s from ∷ K) σ = body_broken b v n s from K σ
  broken b v (call_of s f p ∷ K) σ = stop BreakOutside b

  -- ---- one transition

  unfoldable pub next : Cfg → Cfg
  next (stop why place) = stop why place
  next (going (enter n d) K σ) = entered n d K σ
  next (going (enter_body n d) K σ) = body_entered n d K σ
  next (going (again n d) K σ) = going (work n d) K σ
  next (going (work n d) K σ) = worked (kind_of (node_at image h n).kind) n d K σ
  next (going (instructions n i d s) K σ) = instructed n i d s K σ
  next (going (items n i d p) K σ) = itemised n i d p K σ
  next (going (arms n i d) K σ) = armed n i d K σ
  next (going (turn n d s) K σ) = turned n d s K σ
  next (going (test c d) K σ) = tested c d K σ
  next (going (ret v) K σ) = returned v K σ
  next (going (brk b v) K σ) = broken b v K σ

-- "A take is one step"
abbrev pub within : ℕ → ℕ
within d = cond (ltb most_depth d) 0 1

unfoldable pub cost : Cfg → ℕ
cost (stop why place) = 0
cost (going (enter n d) K σ) = within d
cost (going (enter_body n d) K σ) = within d
cost (going (again n d) K σ) = 1
cost (going (work n d) K σ) = 0
cost (going (instructions n i d s) K σ) = 0
cost (going (items n i d p) K σ) = 0
cost (going (arms n i d) K σ) = 0
cost (going (turn n d s) K σ) = 0
cost (going (test c d) K σ) = 0
cost (going (ret v) K σ) = 0
cost (going (brk b v) K σ) = 0

-- the node that a take is for: "node being entered"
unfoldable pub takes_at : Cfg → ℕ
takes_at (stop why place) = 0
takes_at (going (enter n d) K σ) = n
takes_at (going (enter_body n d) K σ) = n
takes_at (going (again n d) K σ) = n
takes_at (going (work n d) K σ) = 0
takes_at (going (instructions n i d s) K σ) = 0
takes_at (going (items n i d p) K σ) = 0
takes_at (going (arms n i d) K σ) = 0
takes_at (going (turn n d s) K σ) = 0
takes_at (going (test c d) K σ) = 0
takes_at (going (ret v) K σ) = 0
takes_at (going (brk b v) K σ) = 0
