-- Past 1,024 there is no cell.
use Rattle.std.proofs.Common.{arith}
use Rattle.output.proofs.Items.{past_cells}
use Rattle.output.proofs.item_value.Goals as goal

pub returns-then-i-ge1024 : goal.returns-then-i-ge1024
returns-then-i-ge1024 c = past_cells _ c.args.stores.now.fits (omega arith)
