-- What an evaluator promises of the stores that a run works on.
use Rattle.std.specs.Prelude.{ℕ, List, []}
use Rattle.packed.specs.declared.layout.Header.{Header}
use Rattle.rules.specs.Machine.{Ctl, Frame}
use Rattle.stores.specs.declared.lent.Stores.{Stores}
use Rattle.outcomes.specs.declared.Outcome.{Outcome}
use Rattle.std.specs.declared.ops.ControlFlow.{ControlFlow}
use Rattle.outcomes.specs.Post.{Post, Advance, After, AfterOn}

module _ (image : List ℕ) (h : Header) where
  abbrev pub StoresPost : Ctl → List Frame → Stores → Stores → Outcome → Type 0
  StoresPost t₀ fs₀ s s' r = Post image h t₀ fs₀ s.run s.words.now s.bytes.now s'.run s'.words.now s'.bytes.now r

  abbrev pub StoresAdvance : Ctl → List Frame → Ctl → List Frame → Stores → Stores → ControlFlow Outcome (Unit {0}) → Type 0
  StoresAdvance t₀ fs₀ t fs s s' r = Advance image h t₀ fs₀ t fs s.run s.words.now s.bytes.now s'.run s'.words.now s'.bytes.now r

  abbrev pub StoresAfter : List Frame → Outcome → Stores → Stores → Outcome → Type 0
  StoresAfter fs one s s' r = After image h fs one s.run s.words.now s.bytes.now s'.run s'.words.now s'.bytes.now r

  abbrev pub StoresAfterOn : List Frame → Ctl → Outcome → Stores → Stores → ControlFlow Outcome (Unit {0}) → Type 0
  StoresAfterOn fs t one s s' r = AfterOn image h fs t one s.run s.words.now s.bytes.now s'.run s'.words.now s'.bytes.now r

  -- of one that only reads
  abbrev pub StoresGive : Ctl → Stores → Outcome → Type 0
  StoresGive t₀ s r = Post image h t₀ [] s.run s.words.now s.bytes.now s.run s.words.now s.bytes.now r

-- of one that knows no image
abbrev pub StoresEveryAfter : List Frame → Outcome → Stores → Stores → Outcome → Type 0
StoresEveryAfter fs one s s' r = (image : List ℕ) (h : Header) → StoresAfter image h fs one s s' r
