use Rattle.std.proofs.Common.{◌≡◌, ◌++◌, take, drop}
use Rattle.texts.proofs.copy_bytes.Given as goal

-- the first i bytes are copied, the others as they were
abbrev pub invariant-loop-i : goal.invariant-loop-i
invariant-loop-i l = l.to ≡ take l.i l.from ++ drop l.i l.initial.to
