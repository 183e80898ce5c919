-- `decl_done`, `set-done`, `assign_done`, `break_done`, `idle_done`.
use mathlib.Core.Logic.{inl, inr}
use native.Mathlib.Omega.{arith}
use Rattle.outcomes.proofs.NodeLaws.{node_there, target_there}
use Rattle.operands.proofs.OperandLaws.{decl_done, set-done, assign_done, break_done, idle_done}
use Rattle.operands.proofs.use_operand.Goals as goal

pub node-node-requires : goal.node-node-requires
node-node-requires c = node_there c.requires

pub set_target-requires : goal.set_target-requires
set_target-requires c = target_there c.requires _ c.node-node.ensures (inl c.in-4.is)

pub assign_target-requires : goal.assign_target-requires
assign_target-requires c = target_there c.requires _ c.node-node.ensures (inr c.in-5.is)

pub returns-in-3-clause-store : goal.returns-in-3-clause-store
returns-in-3-clause-store c = decl_done _ _ _ _ c.node-node.ensures c.in-3.is c.declare.ensures.store c.bound.ensures

pub returns-in-4-clause-store : goal.returns-in-4-clause-store
returns-in-4-clause-store c = set-done _ _ _ _ c.node-node.ensures c.in-4.is c.set_target.ensures.store c.written.ensures

pub returns-in-5-clause-store : goal.returns-in-5-clause-store
returns-in-5-clause-store c = assign_done _ _ _ _ c.node-node.ensures c.in-5.is c.assign_target.ensures.store c.written-in-5.ensures

pub returns-in-12-clause-store : goal.returns-in-12-clause-store
returns-in-12-clause-store c = break_done _ _ _ _ c.node-node.ensures c.args.stores.now.fits c.in-12.is c.requires

pub returns-in_default-clause-store : goal.returns-in_default-clause-store
returns-in_default-clause-store c = idle_done _ _ _ _ c.node-node.ensures c.args.stores.now.fits (record { no_decl = λ e. omega (arith, e); no_set = λ e. omega (arith, e); no_assign = λ e. omega (arith, e); no_break = λ e. omega (arith, e) })
