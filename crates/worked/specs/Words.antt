-- The words of a line: the parts between its blanks.
use Rattle.std.specs.Prelude.{ℕ, List, eqb}
use Rattle.std.specs.List.{slice_split}

abbrev pub words_of : List ℕ → List (List ℕ)
words_of line = slice_split (λ b. eqb b 32) line
