-- What was sought, told by what was found. Assumes nothing.
use Rattle.std.specs.Prelude.{Some, None}
use Prim.Native.Nat.{ℕ}
use mathlib.Core.Path.{◌≡◌, refl}
use mathlib.Core.Option.{Option, some, none}
use Rattle.stores.specs.Finding.{found_of}

pub found_some : (o : Option ℕ) (i : ℕ) → Some i ≡ found_of o → o ≡ some i
found_some (some k) i e = cc
found_some none i e = cc

pub found_none : (o : Option ℕ) → None ≡ found_of o → o ≡ none
found_none (some k) e = cc
found_none none e = refl
