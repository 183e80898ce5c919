-- What holds of every kind, by one test that computes. Assumes nothing.
use Prim.Native.Nat.{ℕ, zero, suc, ◌+◌, ◌≤◌}
use native.Mathlib.Nat.{add-zero, add-suc, suc-add, zero-add}
use native.Mathlib.Omega.{arith}
use mathlib.Core.Path.{◌≡◌}
use mathlib.Core.Bool.{Bool, true, ◌&&◌}
use mathlib.Core.List.{List, [], ◌∷◌}
use lib.ListN.{length, get_or}
use Rattle.fields.proofs.Tests.{and_both}
use Rattle.rules.specs.Machine.{Kind, other, kinds, kind_of}

-- the test passes at each kind of a list, the first of which has that number
abbrev pub passes_at : (ℕ → Kind → Bool) → ℕ → List Kind → Bool
passes_at test from [] = true
passes_at test from (k ∷ ks) = test from k && passes_at test (suc from) ks

at_kind : (test : ℕ → Kind → Bool) (from : ℕ) (ks : List Kind) → passes_at test from ks ≡ true → ((x : ℕ) → from + length ks ≤ x → test x other ≡ true)
    → (x : ℕ) → test (from + x) (get_or ks x other) ≡ true
at_kind test from [] pass past x = past (from + x) (omega arith)
at_kind test from (k ∷ ks) pass past zero = rw add-zero (and_both (test from k) (passes_at test (suc from) ks) pass).0
at_kind test from (k ∷ ks) pass past (suc x) =
    rw (add-suc, ← suc-add)
    (at_kind test (suc from) ks (and_both (test from k) (passes_at test (suc from) ks) pass).1 (λ y end. past y (omega (arith, end))) x)

pub every_kind : (test : ℕ → Kind → Bool) → passes_at test 0 kinds ≡ true → ((x : ℕ) → 17 ≤ x → test x other ≡ true) → (x : ℕ) → test x (kind_of x) ≡ true
unfolding kind_of kinds
every_kind test pass past x = rw zero-add at (at_kind test 0 kinds pass past x)
