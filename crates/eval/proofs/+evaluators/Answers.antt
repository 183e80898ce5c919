-- The evaluators meet their contracts, goal by goal.
use Prim.Native.Nat.{◌≤◌}
use Rattle.eval.proofs.ChainLoop.{arms_end, arms_next, chain_begins, chain_less, instructions_end, instructions_next, items_next, turn_begins, turn_next}
use Rattle.eval.proofs.MemberLaws.{arm_fails, arm_holds, arm_out, branches_way, break_post, call_done, call_refused, condition_done, default_done, default_unit, entered_less, entered_out, entered_post, falls_after, instruction_next, instruction_past, item_done, item_skipped, items_start, items_way, left_past, let_done, loop_begun, never_on, no_more, no_more_post, not_const_post, on_is, on_post, on_then, operand_done, out_is, pass_done, pass_falls, right_done, scope_begun, scope_last, scope_unit, taken_done, turn_bare, turn_fails, turn_holds, turn_out}
use Rattle.eval.proofs.NodeRanges.{instruction_there, last_there, left_there, right_there, arm_there, default_there, loop_condition_there, loop_body_there, arm_condition_there, arm_body_there, let_there, body_there, item_there, operand_some, operand_there, node_in, a_of, b_of, kind_is, body_of_function, single_within, builds_within}
use Rattle.items.specs.Gathering.{Builds, Gathers, built, called, templates}
use Rattle.operands.specs.Waiting.{Single, breaks, operand_of}
use Rattle.outcomes.proofs.NodeLaws.{node_there}
use Rattle.outcomes.proofs.Ways.{out_of}
use Rattle.packed.specs.declared.layout.Node.{Node}
use Rattle.rules.proofs.Moves.{body, expression}
use Rattle.rules.specs.Machine.{kind_of}
use borrow.Author.Rules.{rules}
use mathlib.Core.Path.{ap, refl, subst, sym, ◌∙◌, ◌≡◌}
use native.Mathlib.Omega.{arith}
use Rattle.eval.proofs.+evaluators.Goals as goal
use Rattle.eval.proofs.+evaluators.Goals.{ir_work-in-6-1, ir_work-in_default+else-kind-lt1+else-kind-lt6+then-kind-lt16}

pub ir_arm-node-arm-requires : goal.ir_arm-node-arm-requires
ir_arm-node-arm-requires t c = node_there c.requires.0

pub ir_arm-ir_condition-one-requires : goal.ir_arm-ir_condition-one-requires
ir_arm-ir_condition-one-requires t c =
    let r = c.requires.0 in
    let opened = c.«open».ensures.store in
    let there = arm_condition_there r c.requires.2 in
    (omega (arith, opened.kept.takes), (node_in r (rw (a_of c.node-arm.ensures) there), c.requires.1))

pub ir_binary-node-node-requires : goal.ir_binary-node-node-requires
ir_binary-node-node-requires t c = node_there c.requires.0

pub ir_binary-ir_expr-first-requires : goal.ir_binary-ir_expr-first-requires
ir_binary-ir_expr-first-requires t c =
    let r = c.requires.0 in
    let there = left_there r c.requires.2 in
    (omega arith, node_in r (rw (a_of c.node-node.ensures) there))

pub ir_binary-returns-in_default-clause-store : goal.ir_binary-returns-in_default-clause-store
ir_binary-returns-in_default-clause-store t c = left_past c.requires.2 (a_of c.node-node.ensures) c.args.stores.now.fits c.ir_expr-first.ensures.store c.in_default.not-Done

pub ir_binary-ir_expr-second-requires : goal.ir_binary-ir_expr-second-requires
ir_binary-ir_expr-second-requires t c =
    let r = c.requires.0 in
    let there = right_there r c.requires.2 in
    (omega (arith, no_more_post c.ir_expr-first.ensures.store), node_in r (rw (b_of c.node-node.ensures) there))

pub ir_binary-returns-clause-store : goal.ir_binary-returns-clause-store
ir_binary-returns-clause-store t c =
    right_done c.requires.2 (a_of c.node-node.ensures) c.args.stores.now.fits c.ir_expr-first.ensures.store _ c.in-Done.is
    (b_of c.node-node.ensures) c.ir_expr-second.ensures.store c.finish_binary.ensures.store

pub ir_body-ir_work-requires : goal.ir_body-ir_work-requires
ir_body-ir_work-requires t c =
    let r = c.requires in
    let en = c.enter_body-entered.ensures.machine c.args.image.now.bytes.now c.args.image.now.header c.args.stores.now.words.now c.args.stores.now.bytes.now c.args.stores.now.fits in
    let on = c.in-Continue.is in
    (omega (arith, entered_less en body on), (r, en.shallow on))

pub ir_body-returns-in-Continue-clause-store : goal.ir_body-returns-in-Continue-clause-store
ir_body-returns-in-Continue-clause-store t c = entered_post (c.enter_body-entered.ensures.machine _ _ _ _ c.args.stores.now.fits) c.in-Continue.is c.ir_work.ensures.store

pub ir_body-returns-in-Break-clause-store : goal.ir_body-returns-in-Break-clause-store
ir_body-returns-in-Break-clause-store t c = entered_out (c.enter_body-entered.ensures.machine _ _ _ _ c.args.stores.now.fits) c.in-Break.is

pub ir_branches-node-i-requires : goal.ir_branches-node-i-requires
ir_branches-node-i-requires t c = node_there c.requires.0

pub ir_branches-loop-i-init : goal.ir_branches-loop-i-init
ir_branches-loop-i-init t c = record { at = chain_begins c.args.stores.now.fits (a_of c.node-i.ensures); same = search rules }

pub ir_branches-ir_arm-one-requires : goal.ir_branches-ir_arm-one-requires
ir_branches-ir_arm-one-requires t c =
    let r = c.requires.0 in
    let at = c.loop-i.invariant.at in
    let more = c.loop-i-test.true in
    let there = arm_there r c.requires.2 _ (at.along more) in
    (omega (arith, no_more at.reached), (node_in r (there.0, there.1), c.requires.1, there.2))

pub ir_branches-returns-in-Break-clause-store : goal.ir_branches-returns-in-Break-clause-store
ir_branches-returns-in-Break-clause-store t c = on_post (branches_way c.args.stores.now.fits c.requires.2 (a_of c.node-i.ensures)) (on_post c.loop-i.invariant.at.reached (out_is c.ir_arm-one.ensures.store c.in-Break.is))

pub ir_branches-node-requires : goal.ir_branches-node-requires
ir_branches-node-requires t c =
    let r = c.requires.0 in
    let at = c.loop-i.invariant.at in
    let more = c.loop-i-test.true in
    let there = arm_there r c.requires.2 _ (at.along more) in
    (there.0, there.1)

pub ir_branches-loop-i-smaller : goal.ir_branches-loop-i-smaller
ir_branches-loop-i-smaller t c =
    let r = c.requires.0 in
    let at = c.loop-i.invariant.at in
    let more = c.loop-i-test.true in
    let there = arm_there r c.requires.2 _ (at.along more) in
    chain_less at more c.node.ensures c.onward-i.ensures r.loaded there.1

pub ir_branches-loop-i-preserved : goal.ir_branches-loop-i-preserved
ir_branches-loop-i-preserved t c =
    let at = c.loop-i.invariant.at in
    record {
      at = arms_next at c.loop-i-test.true c.node.ensures c.onward-i.ensures (on_then at.reached (on_is c.ir_arm-one.ensures.store c.in_default.is));
      same = search rules;
    }

pub ir_branches-ir_default-requires : goal.ir_branches-ir_default-requires
ir_branches-ir_default-requires t c =
    let r = c.requires.0 in
    let at = c.loop-i.invariant.at in
    (omega (arith, no_more at.reached), (r, c.requires.1, c.requires.2))

pub ir_branches-returns-clause-store : goal.ir_branches-returns-clause-store
ir_branches-returns-clause-store t c = on_post (branches_way c.args.stores.now.fits c.requires.2 (a_of c.node-i.ensures)) (on_post (arms_end c.loop-i-test.false c.loop-i.invariant.at.reached) c.ir_default.ensures.store)

pub ir_build-ir_items-all-requires : goal.ir_build-ir_items-all-requires
ir_build-ir_items-all-requires t c = (omega arith, (c.requires.0, c.requires.1, built c.requires.2))

pub ir_build-returns-in-Continue-clause-store : goal.ir_build-returns-in-Continue-clause-store
ir_build-returns-in-Continue-clause-store t c = on_post (items_way c.args.stores.now.fits refl (built c.requires.2)) (on_post (on_is c.ir_items-all.ensures.store c.in-Continue.is) (c.build.ensures.store _))

pub ir_build-returns-in-Break-clause-store : goal.ir_build-returns-in-Break-clause-store
ir_build-returns-in-Break-clause-store t c = on_post (items_way c.args.stores.now.fits refl (built c.requires.2)) (out_is c.ir_items-all.ensures.store c.in-Break.is)

pub ir_call-ir_items-all-requires : goal.ir_call-ir_items-all-requires
ir_call-ir_items-all-requires t c = (omega arith, (c.requires.0, c.requires.1, subst Gathers (sym c.requires.2) called))

pub ir_call-ir_called-requires : goal.ir_call-ir_called-requires
ir_call-ir_called-requires t c =
    let q = c.ir_items-all.ensures.store in
    (omega (arith, no_more (on_is q c.in-Continue.is)), (c.requires.0, c.requires.1, c.requires.2))

pub ir_call-returns-in-Continue-clause-store : goal.ir_call-returns-in-Continue-clause-store
ir_call-returns-in-Continue-clause-store t c = on_post (items_way c.args.stores.now.fits refl (subst Gathers (sym c.requires.2) called)) (on_post (on_is c.ir_items-all.ensures.store c.in-Continue.is) c.ir_called.ensures.store)

pub ir_call-returns-in-Break-clause-store : goal.ir_call-returns-in-Break-clause-store
ir_call-returns-in-Break-clause-store t c = on_post (items_way c.args.stores.now.fits refl (subst Gathers (sym c.requires.2) called)) (out_is c.ir_items-all.ensures.store c.in-Break.is)

pub ir_called-returns-in-Break-clause-store : goal.ir_called-returns-in-Break-clause-store
ir_called-returns-in-Break-clause-store t c = call_refused c.enter_call-entered.ensures.store c.in-Break.is

pub ir_called-ir_expr-one-requires : goal.ir_called-ir_expr-one-requires
ir_called-ir_expr-one-requires t c =
    let r = c.requires.0 in
    let e = body_of_function c.function_of-function.ensures in
    let en = on_is (c.enter_call-entered.ensures.store 0) c.in_default.is in
    (omega (arith, no_more en), node_in r (rw e (body_there r c.requires.2)))

pub ir_called-returns-clause-store : goal.ir_called-returns-clause-store
ir_called-returns-clause-store t c =
    call_done c.enter_call-entered.ensures.store _ c.in_default.is (body_of_function c.function_of-function.ensures) refl refl
    c.ir_expr-one.ensures.store c.leave_call.ensures.store

pub ir_condition-node-node-requires : goal.ir_condition-node-node-requires
ir_condition-node-node-requires t c = node_there c.requires.0

pub ir_condition-returns-then-node-ne20-clause-store : goal.ir_condition-returns-then-node-ne20-clause-store
ir_condition-returns-then-node-ne20-clause-store t c = condition_done c.args.stores.now.fits (λ z. c.if-node-ne20.true (kind_is c.node-node.ensures ∙ z)) c.ir_expr.ensures.store

pub ir_condition-ir_expr-one-requires : goal.ir_condition-ir_expr-one-requires
ir_condition-ir_expr-one-requires t c =
    let r = c.requires.0 in
    let there = let_there r (sym (kind_is c.node-node.ensures) ∙ c.if-node-ne20.false) in
    (omega arith, node_in r (rw (a_of c.node-node.ensures) there))

pub ir_condition-returns-clause-store : goal.ir_condition-returns-clause-store
ir_condition-returns-clause-store t c = let_done c.args.stores.now.fits _ (sym (kind_is c.node-node.ensures) ∙ c.if-node-ne20.false) (a_of c.node-node.ensures) c.ir_expr-one.ensures.store c.finish_let.ensures.store

pub ir_default-node-node-requires : goal.ir_default-node-node-requires
ir_default-node-node-requires t c = node_there c.requires.0

pub ir_default-returns-then-node-eq0-clause-store : goal.ir_default-returns-then-node-eq0-clause-store
ir_default-returns-then-node-eq0-clause-store t c = default_unit c.args.stores.now.fits (sym (b_of c.node-node.ensures) ∙ c.if-node-eq0.true)

pub ir_default-ir_body-requires : goal.ir_default-ir_body-requires
ir_default-ir_body-requires t c =
    let r = c.requires.0 in
    let e = b_of c.node-node.ensures in
    let there = default_there r c.requires.2 (λ z. c.if-node-eq0.false (e ∙ z)) in
    (omega arith, node_in r (rw e there))

pub ir_default-returns-clause-store : goal.ir_default-returns-clause-store
ir_default-returns-clause-store t c = default_done c.args.stores.now.fits (b_of c.node-node.ensures) c.if-node-eq0.false c.ir_body.ensures.store

pub ir_expr-enter_expr-entered-requires : goal.ir_expr-enter_expr-entered-requires
ir_expr-enter_expr-entered-requires t c = node_there c.requires

pub ir_expr-ir_work-requires : goal.ir_expr-ir_work-requires
ir_expr-ir_work-requires t c =
    let r = c.requires in
    let en = c.enter_expr-entered.ensures.store in
    let on = c.in-Continue.is in
    (omega (arith, entered_less en expression on), (r, en.shallow on))

pub ir_expr-returns-in-Continue-clause-store : goal.ir_expr-returns-in-Continue-clause-store
ir_expr-returns-in-Continue-clause-store t c = entered_post c.enter_expr-entered.ensures.store c.in-Continue.is c.ir_work.ensures.store

pub ir_item-node-item-requires : goal.ir_item-node-item-requires
ir_item-node-item-requires t c = (c.requires.2.first, c.requires.2.last)

pub ir_item-returns-then-item-eq17-clause-store : goal.ir_item-returns-then-item-eq17-clause-store
ir_item-returns-then-item-eq17-clause-store t c =
    let it = c.requires.2 in
    item_skipped (λ z. omega (arith, z, it.first)) c.args.stores.now.fits (sym (kind_is c.node-item.ensures) ∙ c.if-item-eq17.true)

pub ir_item-returns-clause-store : goal.ir_item-returns-clause-store
ir_item-returns-clause-store t c =
    let it = c.requires.2 in
    item_done (λ z. omega (arith, z, it.first)) c.args.stores.now.fits _ (λ z. c.if-item-eq17.false (kind_is c.node-item.ensures ∙ z)) c.item_node-inner.ensures c.ir_expr-one.ensures.store c.finish_item.ensures.store

pub ir_items-node-i-requires : goal.ir_items-node-i-requires
ir_items-node-i-requires t c = node_there c.requires.0

pub ir_items-loop-i-init : goal.ir_items-loop-i-init
ir_items-loop-i-init t c = record { at = chain_begins c.args.stores.now.fits (a_of c.node-i.ensures); same = search rules }

pub ir_items-node-requires : goal.ir_items-node-requires
ir_items-node-requires t c =
    let r = c.requires.0 in
    let at = c.loop-i.invariant.at in
    let more = c.loop-i-test.true in
    let item = item_there r _ (at.along more) c.requires.2 in
    (item.first, item.last)

pub ir_items-loop-i-smaller : goal.ir_items-loop-i-smaller
ir_items-loop-i-smaller t c =
    let r = c.requires.0 in
    let at = c.loop-i.invariant.at in
    let more = c.loop-i-test.true in
    let item = item_there r _ (at.along more) c.requires.2 in
    chain_less at more c.node.ensures c.onward-i.ensures r.loaded item.last

pub ir_last-node-node-requires : goal.ir_last-node-node-requires
ir_last-node-node-requires t c = node_there c.requires.0

pub ir_last-returns-then-node-eq0-clause-store : goal.ir_last-returns-then-node-eq0-clause-store
ir_last-returns-then-node-eq0-clause-store t c = scope_unit (sym (b_of c.node-node.ensures) ∙ c.if-node-eq0.true) c.close.ensures.store

pub ir_last-ir_expr-one-requires : goal.ir_last-ir_expr-one-requires
ir_last-ir_expr-one-requires t c =
    let r = c.requires.0 in
    let e = b_of c.node-node.ensures in
    let there = last_there r c.requires.2 (λ z. c.if-node-eq0.false (e ∙ z)) in
    (omega arith, node_in r (rw e there))

pub ir_last-returns-clause-store : goal.ir_last-returns-clause-store
ir_last-returns-clause-store t c = scope_last _ _ (b_of c.node-node.ensures) c.if-node-eq0.false c.args.stores.now.fits c.ir_expr-one.ensures.store c.leave_scope.ensures.store

pub ir_loop-loop-r-init : goal.ir_loop-loop-r-init
ir_loop-loop-r-init t c = record { at = turn_begins c.«open».ensures.store.kept.fits; same = search rules }

pub ir_loop-ir_turn-one-requires : goal.ir_loop-ir_turn-one-requires
ir_loop-ir_turn-one-requires t c =
    let r = c.requires.0 in
    let at = c.loop-r.invariant.at in
    let opened = c.«open».ensures.store.kept.takes in
    (omega (arith, opened, no_more at.reached), (r, c.requires.1, c.requires.2))

pub ir_loop-returns-in-Break-clause-store : goal.ir_loop-returns-in-Break-clause-store
ir_loop-returns-in-Break-clause-store t c = on_post (loop_begun c.requires.2 refl c.«open».ensures.store) (on_post c.loop-r.invariant.at.reached (out_is c.ir_turn-one.ensures.store.0 c.in-Break.is))

pub ir_loop-loop-r-preserved : goal.ir_loop-loop-r-preserved
ir_loop-loop-r-preserved t c = record { at = turn_next c.loop-r.invariant.at (on_is c.ir_turn-one.ensures.store.0 c.in_default.is); same = search rules }

pub ir_operand-node-requires : goal.ir_operand-node-requires
ir_operand-node-requires t c = node_there c.requires.0

pub ir_operand-ir_expr-one-requires : goal.ir_operand-ir_expr-one-requires
ir_operand-ir_expr-one-requires t c =
    let r = c.requires.0 in
    let e = c.operand_of-operand.ensures ∙ ap (λ (x : Node). operand_of (kind_of x.kind) x) c.node.ensures in
    (omega arith, node_in r (rw e (operand_there r c.requires.2 c.requires.3)))

pub ir_operand-returns-clause-store : goal.ir_operand-returns-clause-store
ir_operand-returns-clause-store t c =
    let e = c.operand_of-operand.ensures ∙ ap (λ (x : Node). operand_of (kind_of x.kind) x) c.node.ensures in
    operand_done c.args.stores.now.fits _ c.requires.2 e (λ z. c.requires.3 (sym e ∙ z)) c.ir_expr-one.ensures.store c.finish_operand.ensures.store

pub ir_pass-node-node-requires : goal.ir_pass-node-node-requires
ir_pass-node-node-requires t c = node_there c.requires.0

pub ir_pass-ir_body-one-requires : goal.ir_pass-ir_body-one-requires
ir_pass-ir_body-one-requires t c =
    let r = c.requires.0 in
    let there = loop_body_there r c.requires.2 in
    (omega arith, node_in r (rw (b_of c.node-node.ensures) there))

pub ir_pass-returns-clause-store : goal.ir_pass-returns-clause-store
ir_pass-returns-clause-store t c =
    let e = b_of c.node-node.ensures in
    (pass_done _ c.args.stores.now.fits c.ir_body-one.ensures.store c.after_pass.ensures.store e refl, record { less = pass_falls _ c.ir_body-one.ensures.store c.after_pass.ensures.store })

pub ir_scope-node-node-requires : goal.ir_scope-node-node-requires
ir_scope-node-node-requires t c = node_there c.requires.0

pub ir_scope-loop-i-init : goal.ir_scope-loop-i-init
ir_scope-loop-i-init t c = record { at = chain_begins c.«open».ensures.store.kept.fits (a_of c.node-node.ensures); same = search rules }

pub ir_scope-ir_expr-one-requires : goal.ir_scope-ir_expr-one-requires
ir_scope-ir_expr-one-requires t c =
    let r = c.requires.0 in
    let at = c.loop-i.invariant.at in
    let there = instruction_there r c.requires.2 _ (at.along c.loop-i-test.true) in
    let opened = c.«open».ensures.store.kept.takes in
    (omega (arith, opened, no_more at.reached), node_in r (there.0, there.1))

pub ir_scope-returns-in_default-clause-store : goal.ir_scope-returns-in_default-clause-store
ir_scope-returns-in_default-clause-store t c =
    on_post (scope_begun c.requires.2 (a_of c.node-node.ensures) refl c.«open».ensures.store)
    (instruction_past c.loop-i.invariant.at.reached c.loop-i-test.true c.ir_expr-one.ensures.store c.in_default.not-Done)

pub ir_scope-node-requires : goal.ir_scope-node-requires
ir_scope-node-requires t c =
    let r = c.requires.0 in
    let there = instruction_there r c.requires.2 _ (c.loop-i.invariant.at.along c.loop-i-test.true) in
    (there.0, there.1)

pub ir_scope-loop-i-smaller : goal.ir_scope-loop-i-smaller
ir_scope-loop-i-smaller t c =
    let r = c.requires.0 in
    let more = c.loop-i-test.true in
    let there = instruction_there r c.requires.2 _ (c.loop-i.invariant.at.along more) in
    chain_less c.loop-i.invariant.at more c.node.ensures c.onward-i.ensures r.loaded there.1

pub ir_scope-loop-i-preserved : goal.ir_scope-loop-i-preserved
ir_scope-loop-i-preserved t c =
    let more = c.loop-i-test.true in
    record {
      at =
          instructions_next c.loop-i.invariant.at more c.node.ensures c.onward-i.ensures
          (instruction_next c.loop-i.invariant.at.reached more c.ir_expr-one.ensures.store c.in-Done.is);
      same = search rules;
    }

pub ir_scope-ir_last-requires : goal.ir_scope-ir_last-requires
ir_scope-ir_last-requires t c =
    let r = c.requires.0 in
    let at = c.loop-i.invariant.at in
    let opened = c.«open».ensures.store.kept.takes in
    (omega (arith, opened, no_more at.reached), (r, c.requires.1, c.requires.2))

pub ir_scope-returns-clause-store : goal.ir_scope-returns-clause-store
ir_scope-returns-clause-store t c =
    on_post (scope_begun c.requires.2 (a_of c.node-node.ensures) refl c.«open».ensures.store)
    (on_post (instructions_end c.loop-i-test.false c.loop-i.invariant.at.reached) c.ir_last.ensures.store)

pub ir_taken-returns-clause-store : goal.ir_taken-returns-clause-store
ir_taken-returns-clause-store t c = taken_done _ c.args.stores.now.fits c.ir_body-one.ensures.store c.leave_scope.ensures.store

pub ir_turn-node-node-requires : goal.ir_turn-node-node-requires
ir_turn-node-node-requires t c = node_there c.requires.0

pub ir_turn-returns-then-node-eq0-clause-store : goal.ir_turn-returns-then-node-eq0-clause-store
ir_turn-returns-then-node-eq0-clause-store t c = (on_then (turn_bare c.args.stores.now.fits (sym (a_of c.node-node.ensures) ∙ c.if-node-eq0.true)) c.ir_pass.ensures.store.0, c.ir_pass.ensures.store.1)

pub ir_turn-ir_condition-one-requires : goal.ir_turn-ir_condition-one-requires
ir_turn-ir_condition-one-requires t c =
    let r = c.requires.0 in
    let emptied = c.empty.ensures.store in
    let e = a_of c.node-node.ensures in
    let there = loop_condition_there r c.requires.2 (λ z. c.if-node-eq0.false (e ∙ z)) in
    (omega (arith, emptied.kept.takes), (node_in r (rw e there), c.requires.1))

pub ir_work-node-node-requires : goal.ir_work-node-node-requires
ir_work-node-node-requires t c = node_there c.requires.0

pub ir_work-returns-then-node-eq0-clause-store : goal.ir_work-returns-then-node-eq0-clause-store
ir_work-returns-then-node-eq0-clause-store t c = break_post c.requires.0 c.args.stores.now.fits (sym (kind_is c.node-node.ensures) ∙ c.in-12.is) (sym (a_of c.node-node.ensures) ∙ c.if-node-eq0.true)

pub ir_arm-returns-in_err-holds-clause-store : goal.ir_arm-returns-in_err-holds-clause-store
ir_arm-returns-in_err-holds-clause-store t c =
    rw c.from_residual.ensures
    (out_of _ _ (arm_out _ (λ z. omega (arith, z, c.requires.0.first)) (a_of c.node-arm.ensures) refl c.«open».ensures.store c.ir_condition-one.ensures.store (sym c.told.ensures ∙ c.in_err-holds.was)))

pub ir_arm-ir_taken-taken-requires : goal.ir_arm-ir_taken-taken-requires
ir_arm-ir_taken-taken-requires t c =
    let r = c.requires.0 in
    let opened = c.«open».ensures.store in
    let q = c.ir_condition-one.ensures.store in
    (omega (arith, opened.kept.takes, no_more_post q), node_in r (rw (b_of c.node-arm.ensures) (arm_body_there r c.requires.2)))

pub ir_arm-returns-then-holds-clause-store : goal.ir_arm-returns-then-holds-clause-store
ir_arm-returns-then-holds-clause-store t c =
    out_of _ _
    (on_post
    (arm_holds _ (λ z. omega (arith, z, c.requires.0.first)) (a_of c.node-arm.ensures) refl c.«open».ensures.store c.ir_condition-one.ensures.store (sym c.told.ensures ∙ c.in_ok-holds.was) c.if-holds.true)
    (rw (b_of c.node-arm.ensures) at c.ir_taken-taken.ensures.store))

pub ir_arm-returns-clause-store : goal.ir_arm-returns-clause-store
ir_arm-returns-clause-store t c =
    arm_fails _ (λ z. omega (arith, z, c.requires.0.first)) (a_of c.node-arm.ensures) refl c.«open».ensures.store c.ir_condition-one.ensures.store (sym c.told.ensures ∙ c.in_ok-holds.was) c.if-holds.false
    c.close.ensures.store

pub ir_items-ir_item-requires : goal.ir_items-ir_item-requires
ir_items-ir_item-requires t c =
    let r = c.requires.0 in
    let at = c.loop-i.invariant.at in
    (omega (arith, no_more at.reached), (r, c.requires.1, item_there r _ (at.along c.loop-i-test.true) c.requires.2))

pub ir_items-returns-in_err-ir_item-clause-store : goal.ir_items-returns-in_err-ir_item-clause-store
ir_items-returns-in_err-ir_item-clause-store t c =
    rw c.from_residual.ensures
    (on_then (items_start c.args.stores.now.fits (a_of c.node-i.ensures)) (on_then c.loop-i.invariant.at.reached (out_of _ _ (out_is c.ir_item.ensures.store c.in_err-ir_item.was))))

pub ir_items-loop-i-preserved : goal.ir_items-loop-i-preserved
ir_items-loop-i-preserved t c =
    let at = c.loop-i.invariant.at in
    record {
      at = items_next at c.loop-i-test.true c.node.ensures c.onward-i.ensures (on_then at.reached (on_is c.ir_item.ensures.store c.in_ok-ir_item.was));
      same = search rules;
    }

pub ir_turn-returns-in_err-holds-clause-store : goal.ir_turn-returns-in_err-holds-clause-store
ir_turn-returns-in_err-holds-clause-store t c =
    rw c.from_residual.ensures
    (out_of _ _ (turn_out _ (a_of c.node-node.ensures) c.if-node-eq0.false c.empty.ensures.store c.ir_condition-one.ensures.store (sym c.told.ensures ∙ c.in_err-holds.was)), never_on)

pub ir_turn-ir_pass-requires-then-holds : goal.ir_turn-ir_pass-requires-then-holds
ir_turn-ir_pass-requires-then-holds t c =
    let r = c.requires.0 in
    let emptied = c.empty.ensures.store in
    let q = c.ir_condition-one.ensures.store in
    (omega (arith, emptied.kept.takes, no_more_post q), (r, c.requires.1, c.requires.2))

pub ir_turn-returns-then-holds-clause-store : goal.ir_turn-returns-then-holds-clause-store
ir_turn-returns-then-holds-clause-store t c =
    let way = turn_holds _ (a_of c.node-node.ensures) c.if-node-eq0.false c.empty.ensures.store c.ir_condition-one.ensures.store (sym c.told.ensures ∙ c.in_ok-holds.was) c.if-holds.true in
    let pass = c.ir_pass-then-holds.ensures.store in
    (on_then way pass.0, falls_after (no_more way) pass.1)

pub ir_turn-returns-clause-store : goal.ir_turn-returns-clause-store
ir_turn-returns-clause-store t c = (
  out_of _ _
      (turn_fails _ (a_of c.node-node.ensures) c.if-node-eq0.false c.empty.ensures.store c.ir_condition-one.ensures.store (sym c.told.ensures ∙ c.in_ok-holds.was) c.if-holds.false c.close.ensures.store),
  never_on,
)

pub ir_work-ir_operand-requires : goal.ir_work-ir_operand-requires
ir_work-ir_operand-requires t c =
    let k = sym (kind_is c.node-node.ensures) ∙ c.in-12.is in
    (omega arith, (c.requires.0, c.requires.1, subst Single (sym k) breaks, operand_some c.requires.0 k breaks (λ _ z. c.if-node-eq0.false (a_of c.node-node.ensures ∙ z))))

pub ir_work-ir_operand-requires-in-3-to-5 : goal.ir_work-ir_operand-requires-in-3-to-5
ir_work-ir_operand-requires-in-3-to-5 t c =
    let e = kind_is c.node-node.ensures in
    let low : 3 ≤ c.node-node.result.kind = omega arith in
    let high : c.node-node.result.kind ≤ 5 = omega arith in
    let single = single_within c.node-node.result.kind low high in
    (omega arith, (c.requires.0, c.requires.1, subst Single e single, operand_some c.requires.0 (sym e) single (λ z _. omega (arith, z, high))))

pub ir_work-ir_build-requires : goal.ir_work-ir_build-requires
ir_work-ir_build-requires t c =
    let builds : Builds c.node-node.result.kind = elim c.in-6-1.branch [
      | ir_work-in-6-1 w ↦ let e : c.node-node.result.kind ≡ 6 = omega arith in subst Builds (sym e) templates
      | ir_work-in_default+else-kind-lt1+else-kind-lt6+then-kind-lt16 w ↦ builds_within c.node-node.result.kind (omega arith) (omega arith)
    ] in
    (omega arith, (c.requires.0, c.requires.1, subst Builds (kind_is c.node-node.ensures) builds))

pub ir_work-returns-in_default-clause-store : goal.ir_work-returns-in_default-clause-store
ir_work-returns-in_default-clause-store t c =
    let e = kind_is c.node-node.ensures in
    not_const_post c.args.stores.now.fits (λ low high. omega (arith, e, low, high))

pub ir_work-returns-in_default-2-clause-store : goal.ir_work-returns-in_default-2-clause-store
ir_work-returns-in_default-2-clause-store t c =
    let e = kind_is c.node-node.ensures in
    not_const_post c.args.stores.now.fits (λ low high. omega (arith, e, low, high))

pub ir_body-invariant_of-stores-clause-fits : goal.ir_body-invariant_of-stores-clause-fits
ir_body-invariant_of-stores-clause-fits t c =
    (c.enter_body-entered.ensures.machine c.args.image.now.bytes.now c.args.image.now.header c.args.stores.now.words.now c.args.stores.now.bytes.now c.args.stores.now.fits).advance.fits
