-- Whatever the image and the stores, the machine's way is that of one take.
use Rattle.entering.proofs.EnterLaws.{of_body, entered_by, shallow_of}
use Rattle.entering.proofs.enter_body.Goals as goal

pub returns-clause-machine : goal.returns-clause-machine
returns-clause-machine c = λ image h words bytes room. entered_by (of_body image h _ _) c.take.ensures bytes room

pub returns-clause-shallow : goal.returns-clause-shallow
returns-clause-shallow c = shallow_of c.take.ensures
