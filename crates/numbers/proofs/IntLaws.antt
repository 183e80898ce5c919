-- What the proof of a shift to the left needs of its operand.
use mathlib.Core.Path.{◌≡◌, refl}
use mathlib.Core.Bool.{Bool, true, false, ◌||◌}
use Prim.Native.Nat.{ℕ, ◌<◌}
use native.Mathlib.Omega.{arith}
use lib.Dec.{leb, ltb}
use lib.IntN.{ℤ, pos, negsuc, nat_abs}
use mir.Syntax.{w64}
use mir.Val.{of_z}
use borrow.Author.Tests.{leb-false}
use Rattle.std.specs.Prelude.{Ok}
use Rattle.numbers.specs.Ints.{shift_of}

-- an operand k that `shift_operand` gives for y is y, from 0 to 63, and every shift by y has a value
pub record Shift (y k : ℤ) : Type 0 where
  pub operand : k ≡ y
  pub bits : of_z w64 y ≡ nat_abs y
  pub below : of_z w64 y < 64
  pub value : (z : ℤ) → shift_of y z ≡ Ok z

pub shift : (y k : ℤ) → shift_of y y ≡ Ok k → Shift y k
shift (negsuc b) k e = let z : ◌≡◌ {A = ℕ} 0 1 = cc in absurd (omega arith)
shift (pos b) k e = go (ltb b 0 || ltb 4294967295 b) refl (leb 64 b) refl
  where
    go : (p : Bool) → ltb b 0 || ltb 4294967295 b ≡ p → (q : Bool) → leb 64 b ≡ q → Shift (pos b) k
    go true i q j = let z : ◌≡◌ {A = ℕ} 0 1 = cc (rw i at e) in absurd (omega arith)
    go false i true j = let z : ◌≡◌ {A = ℕ} 0 1 = cc (rw (i, j) at e) in absurd (omega arith)
    go false i false j = record {
      operand = cc (rw (i, j) at e);
      bits = refl;
      below = omega (arith, leb-false 64 b j);
      value = λ z. rw (i, j);
    }
