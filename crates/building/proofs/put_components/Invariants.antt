use Rattle.std.proofs.Common.{◌≡◌}
use Rattle.building.proofs.ChainLaws.{left_of}
use Rattle.building.proofs.TemplateLaws.{Printing}
use Rattle.building.proofs.put_components.Given as goal

abbrev pub invariant-loop-i : goal.invariant-loop-i
invariant-loop-i l = record {
  printing : Printing l.image.bytes.now l.image.header l.words l.n l.from l.to l.made l.fn.bytes l.bytes l.end l.items.start l.i;
  last : l.items.end ≡ l.to;
}

-- what is left of the chain
abbrev pub decreases-loop-i : goal.decreases-loop-i
decreases-loop-i l = left_of l.image.header l.i
