-- Laws of tests, for every crate whose definitions answer a `Bool`. Assumes nothing.
use mathlib.Core.Path.{◌≡◌, refl, sym}
use mathlib.Core.Bool.{Bool, true, false, ◌&&◌, true≢false}
use Prim.Native.Nat.{ℕ, ◌≤◌}
use borrow.Author.Tests.{leb-true, le-leb}
use lib.Dec.{leb}

-- two flags that hold together are one
pub same_flag : (p q : Bool) → (p ≡ true → q ≡ true) → (q ≡ true → p ≡ true) → p ≡ q
same_flag true q f g = sym (f refl)
same_flag false true f g = g refl
same_flag false false f g = refl

-- two orders that hold together have the same test
pub same_leb : (a b c d : ℕ) → (a ≤ b → c ≤ d) → (c ≤ d → a ≤ b) → leb a b ≡ leb c d
same_leb a b c d f g =
    same_flag (leb a b) (leb c d) (λ e. le-leb c d (f (leb-true a b e))) (λ e. le-leb a b (g (leb-true c d e)))

-- both of two tests that hold together
pub and_both : (p q : Bool) → p && q ≡ true → (p ≡ true) × (q ≡ true)
and_both true q e = (refl, e)
and_both false q e = absurd (true≢false (sym e))
