-- Entering a node: "tests depth, then takes".
use Rattle.std.specs.Prelude.{ℕ, ◌-◌, ◌≤◌, ◌<◌, ◌≡◌, List, []}
use Rattle.packed.specs.declared.layout.Header.{Header}
use Rattle.rules.specs.declared.Refusal.TheVariants.{Depth}
use Rattle.rules.specs.Machine.{Ctl, enter_body, work, most_depth}
use Rattle.stores.specs.Stores.{takes_of, Fits}
use Rattle.outcomes.specs.declared.Outcome.TheVariants.{Refused, Spent}
use Rattle.outcomes.specs.declared.Outcome.{Outcome}
use Rattle.std.specs.declared.ops.ControlFlow.{ControlFlow}
use Rattle.std.specs.declared.ops.ControlFlow.TheVariants.{Continue, Break}
use Rattle.outcomes.specs.Post.{Advance}
use Rattle.stores.specs.declared.run.Run.{Run}
use Rattle.stores.specs.declared.lent.Stores.{Stores}
use Rattle.stores.specs.Run.{set_takes}

-- so many takes at node n in depth d: all of them, none as it is too deep, or those that are left
pub data Took (n d takes : ℕ) (run : Run) : Run → ControlFlow Outcome (Unit {0}) → Type 0 where
  took : d ≤ most_depth → takes ≤ takes_of run → Took n d takes run (set_takes run (takes_of run - takes)) (Continue tt)
  deep : most_depth < d → Took n d takes run run (Break (Refused Depth n))
  spent : d ≤ most_depth → takes_of run < takes → Took n d takes run (set_takes run 0) (Break (Spent n))

-- what is entered is no deeper than the limit
abbrev pub Shallow : ℕ → ControlFlow Outcome (Unit {0}) → Type 0
Shallow d r = r ≡ Continue tt → d ≤ most_depth

-- from the control t₀ that enters node n to its work
pub record HasEntered (image : List ℕ) (h : Header) (t₀ : Ctl) (n d : ℕ) (run : Run) (words bytes : List ℕ) (run' : Run) (words' bytes' : List ℕ) (r : ControlFlow Outcome (Unit {0})) : Type 0 where
  pub advance : Advance image h t₀ [] (work n d) [] run words bytes run' words' bytes' r
  pub shallow : Shallow d r

abbrev pub Entered : List ℕ → Header → Ctl → ℕ → ℕ → Stores → Stores → ControlFlow Outcome (Unit {0}) → Type 0
Entered image h t₀ n d s s' r = HasEntered image h t₀ n d s.run s.words.now s.bytes.now s'.run s'.words.now s'.bytes.now r

-- a body takes once, whatever the image
abbrev pub BodyEntered : ℕ → ℕ → Run → Run → ControlFlow Outcome (Unit {0}) → Type 0
BodyEntered n d run run' r =
    (image : List ℕ) (h : Header) (words bytes : List ℕ) → Fits run words → HasEntered image h (enter_body n d) n d run words bytes run' words bytes r
