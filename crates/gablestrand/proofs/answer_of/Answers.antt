-- The image loads and is run, or is answered with the error that loading gave.
use Rattle.std.proofs.Common.{sym}
use Rattle.gablestrand.specs.Evaluate.{loaded, unloaded}
use Rattle.gablestrand.proofs.RootLaws.{loaded_whole}
use Rattle.gablestrand.proofs.answer_of.Goals as goal

pub invariant_of-whole : goal.invariant_of-whole
invariant_of-whole c = record { whole = loaded_whole _ (sym c.in-Ok.ensures) }

pub returns-in-Ok : goal.returns-in-Ok
returns-in-Ok c = loaded (sym c.in-Ok.ensures) c.run_image.ensures

pub returns-in-Err : goal.returns-in-Err
returns-in-Err c = unloaded (sym c.in-Err.ensures)
