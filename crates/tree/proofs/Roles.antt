-- A role that is no node's, by the tag that a match tells. Assumes nothing.
use mathlib.Core.Path.{◌≡◌}
use mathlib.Core.List.{[], ◌∷◌}
use Prim.Native.Nat.{ℕ, ◌≤◌}
use native.Mathlib.Nat.{le_refl}
use types.Run.{OneOf, miss}
use denote.Enum.Declared.{tag_of}
use Rattle.std.proofs.Common.{zero-le}
use Rattle.kinds.specs.contracts.Role.{the_type}
use Rattle.kinds.specs.declared.Role.{Role}
use Rattle.kinds.specs.declared.Role.TheVariants.{Unlisted, Number, Literal, Text, Function, Node}
use Rattle.tree.specs.Tree.{named}

-- what has one answer at each such role has it at this one
pub no_node : {A : Type 0} (f : Role → A) (r : A) → r ≡ f Unlisted → r ≡ f Number → r ≡ f Literal → r ≡ f Text → r ≡ f Function
    → (role : Role) → OneOf (0 ∷ 1 ∷ 2 ∷ 3 ∷ 4 ∷ []) (tag_of the_type role) → r ≡ f role
no_node f r u n l t g Unlisted k = u
no_node f r u n l t g Number k = n
no_node f r u n l t g Literal k = l
no_node f r u n l t g Text k = t
no_node f r u n l t g Function k = g
no_node f r u n l t g (Node x y z) k = absurd (miss (0 ∷ 1 ∷ 2 ∷ 3 ∷ 4 ∷ []) 5 tt k)

pub named_le : (role : Role) (x : ℕ) → named role x ≤ x
named_le Unlisted x = zero-le
named_le Number x = zero-le
named_le Literal x = zero-le
named_le Text x = zero-le
named_le Function x = zero-le
named_le (Node needed heads class) x = le_refl x
