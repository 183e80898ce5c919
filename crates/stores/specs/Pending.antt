-- "512 pending: .. the 513th is 11 at once".
use Rattle.std.specs.Prelude.{cond, ltb, length}
use Rattle.std.proofs.Math.Option.{Option, some, none}
use Rattle.rules.specs.declared.Value.{Value}
use Rattle.rules.specs.Store.{Store, most_pending, pushed}

abbrev pub pushed_if_room : Value → Store → Option Store
pushed_if_room v σ = cond (ltb (length σ.pending) most_pending) (some (pushed v σ)) none
