-- Each kind by its clause, and `no_operand`.
use native.Mathlib.Omega.{arith}
use Rattle.rules.specs.Machine.{kinds, kind_of}
use Rattle.operands.proofs.OperandLaws.{no_operand}
use Rattle.operands.proofs.operand_of.Goals as goal

pub returns-in-3 : goal.returns-in-3
unfolding kind_of kinds
returns-in-3 c = rw c.in-3.is

pub returns-in-4 : goal.returns-in-4
unfolding kind_of kinds
returns-in-4 c = rw c.in-4.is

pub returns-in-5 : goal.returns-in-5
unfolding kind_of kinds
returns-in-5 c = rw c.in-5.is

pub returns-in-12 : goal.returns-in-12
unfolding kind_of kinds
returns-in-12 c = rw c.in-12.is

pub returns-in_default : goal.returns-in_default
returns-in_default c = no_operand c.args.node.kind c.args.node (record { no_decl = λ e. omega (arith, e); no_set = λ e. omega (arith, e); no_assign = λ e. omega (arith, e); no_break = λ e. omega (arith, e) })
