-- Three counts grow, one after the other (`added_then`).
use Rattle.std.proofs.Common.{sym}
use Rattle.tree.specs.Tree.{names_of}
use Rattle.tree.proofs.Counting.{added_then}
use Rattle.tree.proofs.name_node.Goals as goal

pub returns : goal.returns
unfolding names_of
returns c =
    rw (sym c.row_of-line.ensures, sym c.named.ensures, sym c.named-2.ensures)
    (added_then (added_then c.bump.ensures c.bump-2.ensures) c.bump-3.ensures)
