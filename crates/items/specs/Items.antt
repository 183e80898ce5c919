-- An item accepted, and what is built when all are there, at any depth.
use Rattle.std.specs.Prelude.{ℕ, ◌≡◌, cond, Result, Ok, List, [], ◌∷◌, eqb}
use Rattle.packed.specs.declared.layout.Header.{Header}
use Rattle.rules.specs.declared.Value.{Value}
use Rattle.rules.specs.Store.{Store, as_float}
use Rattle.rules.specs.Building.{printed}
use Rattle.rules.specs.Machine.{items, ret, item_of, onward}
use Rattle.rules.specs.declared.Refusal.{Refusal}
use Rattle.building.specs.Making.{judged_of}
use Rattle.outcomes.specs.declared.Outcome.{Outcome}
use Rattle.std.specs.declared.ops.ControlFlow.{ControlFlow}
use Rattle.outcomes.specs.Post.{Post, Advance, AfterOn}
use Rattle.stores.specs.declared.run.Run.{Run}
use Rattle.stores.specs.declared.lent.Stores.{Stores}

-- "each component is judged as soon as it is evaluated": in a template, kind 6, and nowhere else
pub record Judges (kind : ℕ) (v : Value) (r : Result (Unit {0}) Refusal) : Type 0 where
  pub is : (image : List ℕ) (h : Header) (σ : Store) → r ≡ cond (eqb kind 6) (judged_of (printed image h σ v) (as_float v)) (Ok tt)

abbrev pub Accepts : List ℕ → Header → ℕ → ℕ → Value → Run → List ℕ → List ℕ → Run → List ℕ → List ℕ → ControlFlow Outcome (Unit {0}) → Type 0
Accepts image h n i v run words bytes run' words' bytes' r =
    (d from : ℕ) → Advance image h (ret v) (item_of n i d from ∷ []) (items n (onward image h i) d from) [] run words bytes run' words' bytes' r

abbrev pub ItemEnds : List ℕ → Header → ℕ → ℕ → ℕ → Outcome → Run → List ℕ → List ℕ → Run → List ℕ → List ℕ → ControlFlow Outcome (Unit {0}) → Type 0
ItemEnds image h n i from one run words bytes run' words' bytes' r =
    (d : ℕ) → AfterOn image h (item_of n i d from ∷ []) (items n (onward image h i) d from) one run words bytes run' words' bytes' r

abbrev pub BuiltOf : List ℕ → Header → ℕ → ℕ → Run → List ℕ → List ℕ → Run → List ℕ → List ℕ → Outcome → Type 0
BuiltOf image h n from run words bytes run' words' bytes' r =
    (d : ℕ) → Post image h (items n 0 d from) [] run words bytes run' words' bytes' r

-- the same of the stores that a run works on
abbrev pub Accepted : List ℕ → Header → ℕ → ℕ → Value → Stores → Stores → ControlFlow Outcome (Unit {0}) → Type 0
Accepted image h n i v s s' r = Accepts image h n i v s.run s.words.now s.bytes.now s'.run s'.words.now s'.bytes.now r

abbrev pub ItemOver : List ℕ → Header → ℕ → ℕ → ℕ → Outcome → Stores → Stores → ControlFlow Outcome (Unit {0}) → Type 0
ItemOver image h n i from one s s' r = ItemEnds image h n i from one s.run s.words.now s.bytes.now s'.run s'.words.now s'.bytes.now r

abbrev pub Built : List ℕ → Header → ℕ → ℕ → Stores → Stores → Outcome → Type 0
Built image h n from s s' r = BuiltOf image h n from s.run s.words.now s.bytes.now s'.run s'.words.now s'.bytes.now r
