-- A number is below 2 ^ width exactly if nothing is left of it past `width` bits.
use Rattle.std.proofs.Common.{◌≡◌, ◌/◌, ◌^◌, ◌<◌, ℕ, ltb, arith, subst}
use Rattle.std.proofs.Math.Nat.{one-mul, div-lt_iff_lt-mul, div-eq_of_lt}
use Rattle.std.proofs.Math.Pow.{pow_pos}
use borrow.Author.Tests.{lt-ltb, ltb-true, eq-eqb, eqb-true}
use lib.Dec.{eqb}
use Rattle.fields.proofs.Tests.{same_flag}
use Rattle.fields.proofs.has_room.Goals as goal

nothing_past : (v w : ℕ) → eqb (v / 2 ^ w) 0 ≡ ltb v (2 ^ w)
nothing_past v w =
    same_flag (eqb (v / 2 ^ w) 0) (ltb v (2 ^ w))
    (λ e.
    let none : v / 2 ^ w < 1 = omega (arith, eqb-true (v / 2 ^ w) 0 e) in
    lt-ltb v (2 ^ w) (subst (λ (n : ℕ). v < n) (one-mul (2 ^ w)) ((div-lt_iff_lt-mul (pow_pos w)).0 none)))
    (λ e. eq-eqb (v / 2 ^ w) 0 (div-eq_of_lt (ltb-true v (2 ^ w) e)))

pub returns : goal.returns
returns c = rw c.down.ensures (nothing_past c.args.value c.args.width)
