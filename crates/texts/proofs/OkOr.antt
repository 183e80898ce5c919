-- What a `?` after `ok_or` tells of the option. Assumes nothing.
use mathlib.Core.Path.{◌≡◌}
use Rattle.std.specs.Prelude.{Option, Some, None, Result, Ok, Err}
use Rattle.std.specs.Option.{ok_or}

module _ {A E : Type 0} (o : Option A) (e : E) {r : Result A E} (given : r ≡ ok_or o e) where
  pub some_of : (x : A) → r ≡ Ok x → Some x ≡ o
  some_of x was = go o given
    where
      go : (o : Option A) → r ≡ ok_or o e → Some x ≡ o
      go None g = cc
      go (Some y) g = cc

  pub none_of : (d : E) → r ≡ Err d → None ≡ o
  none_of d was = go o given
    where
      go : (o : Option A) → r ≡ ok_or o e → None ≡ o
      go None g = cc
      go (Some y) g = cc

  -- the error is the one that was named
  pub error_of : (d : E) → r ≡ Err d → d ≡ e
  error_of d was = go o given
    where
      go : (o : Option A) → r ≡ ok_or o e → d ≡ e
      go None g = cc
      go (Some y) g = cc
