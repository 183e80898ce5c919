-- The search goes on at n (`here`, `on`, `done`).
use Rattle.std.proofs.Common.{◌≡◌, ℕ, ◌+◌, ◌-◌, not, arith, sym, ap, ◌∙◌}
use Rattle.records.specs.First.{first_from}
use Rattle.tree.specs.Tree.{at_fault, lowest_fault}
use Rattle.records.proofs.Search.{start, here, on, done}
use Rattle.tree.proofs.first_wrong.Goals as goal

pub loop-n-init : goal.loop-n-init
unfolding lowest_fault
loop-n-init c = (omega arith, start (at_fault c.args.image.now.bytes.now c.args.image.now.header) 1 c.args.image.now.header.nodes)

pub returns-then-not-node_right : goal.returns-then-not-node_right
returns-then-not-node_right c =
    let l = c.loop-n in
    let a = c.args in
    rw c.from.ensures
    (sym (l.invariant.1 ∙ here (at_fault a.image.now.bytes.now a.image.now.header) l.n (1 + a.image.now.header.nodes) (omega arith) (ap not (sym c.node_right.ensures ∙ c.if-not-node_right.true))))

pub loop-n-preserved : goal.loop-n-preserved
loop-n-preserved c =
    let l = c.loop-n in
    let a = c.args in
    (omega arith, l.invariant.1 ∙ on (at_fault a.image.now.bytes.now a.image.now.header) l.n (1 + a.image.now.header.nodes) (omega arith) (ap not (sym c.node_right.ensures ∙ c.if-not-node_right.false)))

-- no node
pub returns : goal.returns
returns c =
    let l = c.loop-n in
    let test = at_fault c.args.image.now.bytes.now c.args.image.now.header in
    let end : 1 + c.args.image.now.header.nodes ≡ l.n = omega arith in
    sym (l.invariant.1 ∙ ap (λ (e : ℕ). first_from test l.n (e - l.n)) end ∙ done test l.n)

-- after the last node
pub returns-else-not-node_right : goal.returns-else-not-node_right
returns-else-not-node_right c =
    let l = c.loop-n in
    let a = c.args in
    let test = at_fault a.image.now.bytes.now a.image.now.header in
    let end : 1 + a.image.now.header.nodes ≡ l.n + 1 = omega arith in
    let rest = on test l.n (1 + a.image.now.header.nodes) (omega arith) (ap not (sym c.node_right.ensures ∙ c.if-not-node_right.false)) in
    sym (l.invariant.1 ∙ rest ∙ ap (λ (e : ℕ). first_from test (l.n + 1) (e - (l.n + 1))) end ∙ done test (l.n + 1))
