-- What was sought, by its number: the rules' option as the language's.
use Rattle.std.specs.Prelude.{ℕ, Option, Some, None}
use Rattle.std.proofs.Math.Option.{Option as Sought, some, none}

abbrev pub found_of : Sought ℕ → Option ℕ
found_of none = None
found_of (some i) = Some i
