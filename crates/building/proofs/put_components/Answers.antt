-- The loop's invariant is `Printing`; the measure is what is left of the chain.
use mathlib.Core.Path.{refl, sym, ap, ◌∙◌}
use native.Mathlib.Omega.{arith}
use Rattle.packed.specs.declared.layout.Node.{Node}
use Rattle.building.proofs.ChainLaws.{part_there}
use Rattle.building.proofs.TemplateLaws.{printing_begins, printing_more, printing_full, items_end, chain_ends, text_component, value_component}
use Rattle.building.proofs.put_components.Goals as goal
use Rattle.building.proofs.put_components.Goals.{then-node-eq17+in_ok-end, else-node-eq17+in-Some+in_ok-end-2}

pub loop-i-init : goal.loop-i-init
loop-i-init c =
    record { printing = rw c.node-i.ensures (printing_begins _ _ _ _ _ _ _ _ c.requires.0 c.requires.3); last = refl }

pub key_of-requires : goal.key_of-requires
key_of-requires c =
    let is = c.node-node.ensures in
    let kind = sym (ap (λ (d : Node). d.kind) is) ∙ c.if-node-eq17.true in
    rw is (part_there _ _ c.requires.0.loaded _ c.loop-i-test.true c.loop-i.invariant.printing.node kind)

pub returns-in_err-end : goal.returns-in_err-end
returns-in_err-end c =
    let p = c.loop-i.invariant.printing in
    let is = c.node-node.ensures in
    let kind = sym (ap (λ (d : Node). d.kind) is) ∙ c.if-node-eq17.true in
    let put = rw (c.key_of.ensures, is) at c.put_part.ensures in
    rw c.from_residual.ensures
    (printing_full _ _ _ _ _ _ _ _ c.requires.0 _ _ _ _ p c.loop-i-test.true _ _ _
    (text_component _ _ _ _ _ _ _ _ c.requires.0 _ _ _ _ p c.loop-i-test.true _ _ kind put.end put.bytes) c.in_err-end.was)

pub returns-in_default : goal.returns-in_default
returns-in_default c =
    let kind = ap (λ (d : Node). d.kind) c.node-node.ensures in
    let steps = c.in_default.ensures.steps in
    items_end _ _ _ _ _ _ _ _ c.requires.0 _ _ _ _ c.loop-i.invariant.printing c.loop-i-test.true (λ e. c.if-node-eq17.false (kind ∙ e))
    (omega (arith, steps, c.loop-i.invariant.last))

pub returns-in_err-end-2 : goal.returns-in_err-end-2
returns-in_err-end-2 c =
    let p = c.loop-i.invariant.printing in
    let kind = ap (λ (d : Node). d.kind) c.node-node.ensures in
    let steps = c.in-Some.ensures.steps in
    let put = rw (c.pending_at.ensures, steps.1.1) at c.put_value.ensures in
    rw c.from_residual-in_err-end-2.ensures
    (printing_full _ _ _ _ _ _ _ _ c.requires.0 _ _ _ _ p c.loop-i-test.true _ _ _
    (value_component _ _ _ _ _ _ _ _ c.requires.0 _ _ _ _ p c.loop-i-test.true _ _ (λ e. c.if-node-eq17.false (kind ∙ e))
    (omega (arith, steps, c.loop-i.invariant.last)) put.end put.bytes)
    c.in_err-end-2.was)

-- either arm puts the component
pub loop-i-preserved : goal.loop-i-preserved
loop-i-preserved c =
    let p = c.loop-i.invariant.printing in
    let is = c.node-node.ensures in
    let kind = ap (λ (d : Node). d.kind) is in
    rw (c.onward-i.ensures, is)
    (elim c.if-node-eq17.branch [
      | then-node-eq17+in_ok-end w ↦
          let put = rw (w.key_of.ensures, is) at w.put_part.ensures in
          rw (w.bytes-is, w.items-is, w.end-is)
          (record {
            printing =
                printing_more _ _ _ _ _ _ _ _ c.requires.0 _ _ _ _ p c.loop-i-test.true _ _ _
                (text_component _ _ _ _ _ _ _ _ c.requires.0 _ _ _ _ p c.loop-i-test.true _ _ (sym kind ∙ w.if-node-eq17.true) put.end put.bytes)
                _ w.in_ok-end.was;
            last = c.loop-i.invariant.last;
          })
      | else-node-eq17+in-Some+in_ok-end-2 w ↦
          let steps = w.in-Some.ensures.steps in
          let put = rw (w.pending_at.ensures, steps.1.1) at w.put_value.ensures in
          rw (w.bytes-is, w.items-is, w.end-is, steps.1.2)
          (record {
            printing =
                printing_more _ _ _ _ _ _ _ _ c.requires.0 _ _ _ _ p c.loop-i-test.true _ _ _
                (value_component _ _ _ _ _ _ _ _ c.requires.0 _ _ _ _ p c.loop-i-test.true _ _ (λ e. w.if-node-eq17.false (kind ∙ e))
                (omega (arith, steps, c.loop-i.invariant.last)) put.end put.bytes)
                _ w.in_ok-end-2.was;
            last = steps.0 ∙ c.loop-i.invariant.last;
          })
    ])

pub returns : goal.returns
returns c = chain_ends _ _ _ _ _ _ _ _ _ _ _ _ c.loop-i.invariant.printing c.loop-i-test.false
