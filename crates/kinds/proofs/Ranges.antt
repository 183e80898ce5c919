-- The numbers that a match over a range of kinds leaves. Assumes nothing.
use mathlib.Core.Path.{◌≡◌}
use Prim.Native.Nat.{ℕ, zero, suc, ◌+◌, ◌≤◌}
use native.Mathlib.Omega.{arith}

-- k is none of the n numbers from lo on, in the form in which a match tells it of what no arm names
abbrev pub NoneOf : ℕ → ℕ → ℕ → Type 0
NoneOf lo zero k = Unit
NoneOf lo (suc n) k = NoneOf lo n k × (k ≡ lo + n → ⊥)

pub past : (lo n k : ℕ) → lo ≤ k → NoneOf lo n k → lo + n ≤ k
past lo zero k h none = omega arith
past lo (suc n) k h none =
    let before = past lo n k h none.0 in
    let other = none.1 in
    omega arith
