-- A call's measure is sixteen times the takes that are left, and a rank below sixteen: an evaluator calls those of a lower rank at the same takes, and any after a take.
use Rattle.std.proofs.Common.{◌+◌, ◌*◌}
use Rattle.rules.specs.Machine.{arms, items, turn, instructions}
use Rattle.stores.specs.Lent.{SameSlices}
use Rattle.stores.specs.Stores.{takes_of}
use Rattle.building.proofs.ChainLaws.{left_of}
use Rattle.eval.proofs.ChainLoop.{AtChain, AtTurn}
use Rattle.eval.proofs.+evaluators.Given as goal

abbrev pub decreases-ir_arm : goal.decreases-ir_arm
decreases-ir_arm l = 16 * takes_of l.stores.now.run + 3

abbrev pub decreases-ir_binary : goal.decreases-ir_binary
decreases-ir_binary l = 16 * takes_of l.stores.now.run + 8

abbrev pub decreases-ir_body : goal.decreases-ir_body
decreases-ir_body l = 16 * takes_of l.stores.now.run

abbrev pub decreases-ir_branches : goal.decreases-ir_branches
decreases-ir_branches l = 16 * takes_of l.stores.now.run + 8

abbrev pub decreases-ir_build : goal.decreases-ir_build
decreases-ir_build l = 16 * takes_of l.stores.now.run + 8

abbrev pub decreases-ir_call : goal.decreases-ir_call
decreases-ir_call l = 16 * takes_of l.stores.now.run + 8

abbrev pub decreases-ir_called : goal.decreases-ir_called
decreases-ir_called l = 16 * takes_of l.stores.now.run + 1

abbrev pub decreases-ir_condition : goal.decreases-ir_condition
decreases-ir_condition l = 16 * takes_of l.stores.now.run + 1

abbrev pub decreases-ir_default : goal.decreases-ir_default
decreases-ir_default l = 16 * takes_of l.stores.now.run + 1

abbrev pub decreases-ir_expr : goal.decreases-ir_expr
decreases-ir_expr l = 16 * takes_of l.stores.now.run

abbrev pub decreases-ir_item : goal.decreases-ir_item
decreases-ir_item l = 16 * takes_of l.stores.now.run + 1

abbrev pub decreases-ir_items : goal.decreases-ir_items
decreases-ir_items l = 16 * takes_of l.stores.now.run + 3

abbrev pub decreases-ir_last : goal.decreases-ir_last
decreases-ir_last l = 16 * takes_of l.stores.now.run + 1

abbrev pub decreases-ir_loop : goal.decreases-ir_loop
decreases-ir_loop l = 16 * takes_of l.stores.now.run + 8

abbrev pub decreases-ir_operand : goal.decreases-ir_operand
decreases-ir_operand l = 16 * takes_of l.stores.now.run + 8

abbrev pub decreases-ir_pass : goal.decreases-ir_pass
decreases-ir_pass l = 16 * takes_of l.stores.now.run + 1

abbrev pub decreases-ir_scope : goal.decreases-ir_scope
decreases-ir_scope l = 16 * takes_of l.stores.now.run + 8

abbrev pub decreases-ir_taken : goal.decreases-ir_taken
decreases-ir_taken l = 16 * takes_of l.stores.now.run + 1

abbrev pub decreases-ir_turn : goal.decreases-ir_turn
decreases-ir_turn l = 16 * takes_of l.stores.now.run + 3

abbrev pub decreases-ir_work : goal.decreases-ir_work
decreases-ir_work l = 16 * takes_of l.stores.now.run + 9

abbrev pub invariant-ir_branches-loop-i : goal.invariant-ir_branches-loop-i
invariant-ir_branches-loop-i l = record {
  at : AtChain l.image.bytes.now l.image.header l.n (arms l.n l.initial.i l.depth) (arms l.n l.i l.depth) l.i l.initial.stores.run l.initial.stores.words.now l.initial.stores.bytes.now l.stores.run l.stores.words.now l.stores.bytes.now;
  same : SameSlices l.fn.stores l.stores;
}

abbrev pub decreases-ir_branches-loop-i : goal.decreases-ir_branches-loop-i
decreases-ir_branches-loop-i l = left_of l.image.header l.i

abbrev pub invariant-ir_items-loop-i : goal.invariant-ir_items-loop-i
invariant-ir_items-loop-i l = record {
  at : AtChain l.image.bytes.now l.image.header l.n (items l.n l.initial.i l.depth l.from) (items l.n l.i l.depth l.from) l.i l.initial.stores.run l.initial.stores.words.now l.initial.stores.bytes.now l.stores.run l.stores.words.now l.stores.bytes.now;
  same : SameSlices l.fn.stores l.stores;
}

abbrev pub decreases-ir_items-loop-i : goal.decreases-ir_items-loop-i
decreases-ir_items-loop-i l = left_of l.image.header l.i

abbrev pub invariant-ir_loop-loop-r : goal.invariant-ir_loop-loop-r
invariant-ir_loop-loop-r l = record {
  at : AtTurn l.image.bytes.now l.image.header (turn l.n l.depth l.scope) l.initial.stores.run l.initial.stores.words.now l.initial.stores.bytes.now l.stores.run l.stores.words.now l.stores.bytes.now;
  same : SameSlices l.fn.stores l.stores;
}

abbrev pub decreases-ir_loop-loop-r : goal.decreases-ir_loop-loop-r
decreases-ir_loop-loop-r l = takes_of l.stores.run

abbrev pub invariant-ir_scope-loop-i : goal.invariant-ir_scope-loop-i
invariant-ir_scope-loop-i l = record {
  at : AtChain l.image.bytes.now l.image.header l.n (instructions l.n l.initial.i l.depth l.scope) (instructions l.n l.i l.depth l.scope) l.i l.initial.stores.run l.initial.stores.words.now l.initial.stores.bytes.now l.stores.run l.stores.words.now l.stores.bytes.now;
  same : SameSlices l.fn.stores l.stores;
}

abbrev pub decreases-ir_scope-loop-i : goal.decreases-ir_scope-loop-i
decreases-ir_scope-loop-i l = left_of l.image.header l.i
