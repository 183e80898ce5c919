use Rattle.std.proofs.Common.{take}
use Rattle.pouring.specs.Pouring.{Pours, bits_before, byte_bits}
use Rattle.pouring.proofs.pour_bytes.Given as goal

abbrev pub invariant-loop-i : goal.invariant-loop-i
invariant-loop-i l = Pours (bits_before l.spot) (byte_bits (take l.i l.source)) l.initial.out l.out
