use Rattle.std.proofs.Common.{◌≡◌, ◌+◌, ◌-◌, ◌*◌, ◌/◌, ◌^◌, ◌≤◌, ◌<◌}
use Rattle.rules.specs.Output.{bits_of}
use Rattle.pouring.specs.Pouring.{Pours, bits_before}
use Rattle.pouring.proofs.pour.Given as goal

-- what has been poured is the number without the bits that are left
abbrev pub invariant-loop-at : goal.invariant-loop-at
invariant-loop-at l =
    record {
      small : l.used < 8;
      within : l.left ≤ l.width;
      at : 8 * l.at + l.used + l.left ≡ bits_before l.fn.spot + l.width;
      so_far : Pours (bits_before l.fn.spot) (bits_of (l.width - l.left) (l.x / 2 ^ l.left)) l.initial.out l.out;
    }
