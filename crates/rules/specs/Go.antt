-- The paths of the machine under a budget, for the contracts of the evaluators.
use Rattle.std.specs.Prelude.{ℕ, ◌+◌, ◌≡◌, List}
use Rattle.packed.specs.declared.layout.Header.{Header}
use Rattle.rules.specs.Machine.{Cfg}
use Rattle.rules.specs.Runs.{Comes}

-- with l takes at hand the machine goes from c to d, and m of them are left
pub record Go (image : List ℕ) (h : Header) (l : ℕ) (c : Cfg) (m : ℕ) (d : Cfg) : Type 0 where
  pub taken : ℕ
  pub comes : Comes image h c taken d
  pub left : l ≡ taken + m
