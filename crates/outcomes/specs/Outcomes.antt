-- What was got, written or bound, as an outcome; a node of an image that loads.
use Rattle.std.specs.Prelude.{ℕ, ◌≤◌, ◌≡◌, Bool, true, false, List, Result, Ok, Err}
use Rattle.packed.specs.declared.layout.Header.{Header}
use Rattle.image.specs.Load.{load_of}
use Rattle.rules.specs.declared.Value.{Value}
use Rattle.rules.specs.declared.Value.TheVariants.{Unit as VUnit}
use Rattle.rules.specs.declared.Refusal.TheVariants.{Bindings}
use Rattle.rules.specs.declared.Refused.{Refused as WasRefused}
use Rattle.outcomes.specs.declared.Outcome.{Outcome}
use Rattle.outcomes.specs.declared.Outcome.TheVariants.{Done, Broke, Refused, Spent}

abbrev pub got_of : Result Value WasRefused → Outcome
got_of (Ok v) = Done v
got_of (Err e) = Refused e.why e.place

-- "Set, assign and decl give unit"
abbrev pub written_of : Result (Unit {0}) WasRefused → Outcome
written_of (Ok u) = Done VUnit
written_of (Err e) = Refused e.why e.place

abbrev pub bound_of : Bool → ℕ → Value → Outcome
bound_of true n v = Done v
bound_of false n v = Refused Bindings n

pub record IsNode (image : List ℕ) (h : Header) (n : ℕ) : Type 0 where
  pub loaded : load_of image ≡ Ok h
  pub first : 1 ≤ n
  pub last : n ≤ h.nodes

-- where the outcome is a break, it is of such a node
abbrev pub BreakOf : List ℕ → Header → Outcome → Type 0
BreakOf image h (Done v) = Unit {0}
BreakOf image h (Broke b v) = IsNode image h b
BreakOf image h (Refused why place) = Unit {0}
BreakOf image h (Spent place) = Unit {0}

pub record IsBreak (image : List ℕ) (h : Header) (one : Outcome) : Type 0 where
  pub is : BreakOf image h one
