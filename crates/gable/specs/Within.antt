-- Lengths within what was lent.
use Rattle.std.specs.Prelude.{ℕ, ◌≤◌, ◌≡◌, List, length}
use Rattle.rules.specs.declared.Answer.{Answer}
use Rattle.rules.specs.declared.Answer.TheVariants.{Value}

-- an answer whose value is within the output
pub record Fits (answer : Answer) (output : List ℕ) : Type 0 where
  pub within : (n steps : ℕ) → answer ≡ Value n steps → n ≤ length output
