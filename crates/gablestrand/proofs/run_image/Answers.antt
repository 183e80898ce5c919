-- The root is ready, and its outcome is the answer.
use Rattle.gablestrand.proofs.RootLaws.{root_node, left_within, done, broke, stopped_at, starved}
use Rattle.gablestrand.proofs.run_image.Goals as goal

pub ir_expr-outcome-requires : goal.ir_expr-outcome-requires
ir_expr-outcome-requires c = root_node c.requires.0

pub overflow_sub-steps : goal.overflow_sub-steps
overflow_sub-steps c = left_within c.ir_expr-outcome.ensures.store

pub returns-in-Done : goal.returns-in-Done
returns-in-Done c = done c.in-Done.ensures.store (rw (c.shared.ensures.run, c.shared.ensures.words, c.shared.ensures.bytes) at c.finish.ensures)

pub returns-in-Broke : goal.returns-in-Broke
returns-in-Broke c = rw c.from.ensures (broke c.in-Broke.ensures.store)

pub returns-in-Refused : goal.returns-in-Refused
returns-in-Refused c = rw c.from-in-Refused.ensures (stopped_at c.in-Refused.ensures.store)

pub returns-in-Spent : goal.returns-in-Spent
returns-in-Spent c = rw c.from-in-Spent.ensures (starved c.in-Spent.ensures.store)
