-- What the last part of a call promises.
use Rattle.std.specs.Prelude.{ℕ, ◌≡◌, List}
use Rattle.packed.specs.declared.layout.Header.{Header}
use Rattle.rules.specs.declared.Answer.{Answer}
use Rattle.rules.specs.declared.Value.{Value}
use Rattle.rules.specs.Store.{Store}
use Rattle.rules.specs.Runs.{of_encoded, out_of, value_encoded}

-- the answer of a value after so many steps
pub record Finished (image : List ℕ) (h : Header) (σ : Store) (v : Value) (steps : ℕ) (out out' : List ℕ) (r : Answer) : Type 0 where
  pub answers : r ≡ of_encoded image h steps (value_encoded image h out v σ)
  pub left : out' ≡ out_of image h out (value_encoded image h out v σ)
