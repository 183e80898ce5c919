use Rattle.std.proofs.Common.{◌≡◌, ◌-◌, ◌*◌, ◌^◌}
use Rattle.fields.specs.Field.{field_of}
use Rattle.fields.proofs.number_at.Given as goal

abbrev pub invariant-loop-i : goal.invariant-loop-i
invariant-loop-i g l = l.number ≡ field_of l.bytes (8 * l.at) (8 * l.i) * 2 ^ (8 * (l.i-end - l.i))
