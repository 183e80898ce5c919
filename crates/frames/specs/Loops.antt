-- What a condition tells, and what a pass through a loop's body leaves to do, at any depth.
use Rattle.std.specs.Prelude.{ℕ, Bool, List, [], ◌∷◌}
use Rattle.std.proofs.Math.Option.{Option, some, none}
use Rattle.packed.specs.declared.layout.Header.{Header}
use Rattle.rules.specs.declared.Value.{Value}
use Rattle.rules.specs.declared.Refusal.TheVariants.{NotBool}
use Rattle.rules.specs.Store.{as_bool}
use Rattle.rules.specs.Machine.{turn, brk, body_of}
use Rattle.outcomes.specs.declared.Outcome.{Outcome}
use Rattle.outcomes.specs.declared.Outcome.TheVariants.{Done, Broke, Refused, Spent}
use Rattle.std.specs.declared.ops.ControlFlow.{ControlFlow}
use Rattle.std.specs.declared.ops.ControlFlow.TheVariants.{Continue, Break}
use Rattle.outcomes.specs.Post.{Post, AfterOn}
use Rattle.stores.specs.declared.run.Run.{Run}
use Rattle.stores.specs.declared.lent.Stores.{Stores}

-- "A condition that isn't bool is 15", at the condition
abbrev pub told_by : ℕ → Option Bool → ControlFlow Outcome Bool
told_by c none = Break (Refused NotBool c)
told_by c (some holds) = Continue holds

abbrev pub told_of : ℕ → Outcome → ControlFlow Outcome Bool
told_of c (Done v) = told_by c (as_bool v)
told_of c (Broke b v) = Break (Broke b v)
told_of c (Refused why place) = Break (Refused why place)
told_of c (Spent place) = Break (Spent place)

abbrev pub BreakSees : List ℕ → Header → ℕ → ℕ → Value → ℕ → ℕ → Run → List ℕ → List ℕ → Run → List ℕ → List ℕ → Outcome → Type 0
BreakSees image h n b v scope from run words bytes run' words' bytes' r =
    (d : ℕ) → Post image h (brk b v) (body_of n d scope from ∷ []) run words bytes run' words' bytes' r

abbrev pub PassGoes : List ℕ → Header → ℕ → ℕ → ℕ → Outcome → Run → List ℕ → List ℕ → Run → List ℕ → List ℕ → ControlFlow Outcome (Unit {0}) → Type 0
PassGoes image h n scope from one run words bytes run' words' bytes' r =
    (d : ℕ) → AfterOn image h (body_of n d scope from ∷ []) (turn n d scope) one run words bytes run' words' bytes' r

-- the same of the stores that a run works on
abbrev pub BreakSeen : List ℕ → Header → ℕ → ℕ → Value → ℕ → ℕ → Stores → Stores → Outcome → Type 0
BreakSeen image h n b v scope from s s' r = BreakSees image h n b v scope from s.run s.words.now s.bytes.now s'.run s'.words.now s'.bytes.now r

abbrev pub PassOver : List ℕ → Header → ℕ → ℕ → ℕ → Outcome → Stores → Stores → ControlFlow Outcome (Unit {0}) → Type 0
PassOver image h n scope from one s s' r = PassGoes image h n scope from one s.run s.words.now s.bytes.now s'.run s'.words.now s'.bytes.now r
