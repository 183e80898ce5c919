-- The first number at which a test holds.
use Rattle.std.specs.Prelude.{ℕ, zero, suc, ◌+◌, ◌≤◌, ◌<◌, ◌≡◌, Bool, true, false, cond, Option, Some, None}

-- the first of the n numbers from i on at which the test holds
unfoldable pub first_from : (ℕ → Bool) → ℕ → ℕ → Option ℕ
first_from test i zero = None
first_from test i (suc n) = cond (test i) (Some i) (first_from test (suc i) n)

-- the same as facts: p is the first of them, or the test holds at none
pub record First (test : ℕ → Bool) (i n p : ℕ) : Type 0 where
  pub from : i ≤ p
  pub within : p < i + n
  pub holds : test p ≡ true
  pub none : (q : ℕ) → i ≤ q → q < p → test q ≡ false

abbrev pub Never : (ℕ → Bool) → ℕ → ℕ → Type 0
Never test i n = (q : ℕ) → i ≤ q → q < i + n → test q ≡ false
