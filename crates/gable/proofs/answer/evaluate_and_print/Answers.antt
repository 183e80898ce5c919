-- A value is no longer than the output.
use Rattle.std.proofs.Common.{rules}
use Rattle.gablestrand.proofs.Demands.{value_within}
use Rattle.gable.proofs.answer.evaluate_and_print.Goals as goal

pub print_answer-requires : goal.print_answer-requires
print_answer-requires g c = record { within = λ n steps e. let l = value_within c.evaluate-answer.ensures n steps e in search rules }
