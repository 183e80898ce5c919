-- One node more: what it names is counted, and what it says of chains is marked.
use Rattle.std.proofs.Common.{◌≡◌, ℕ, zero, suc, ◌+◌, ◌-◌, ◌≤◌, ◌<◌, List, ◌++◌, get_or, arith, ap, ◌∙◌, subst}
use Rattle.packed.specs.declared.layout.Header.{Header}
use Rattle.packed.specs.declared.layout.Node.{Node}
use Rattle.packed.specs.Layout.{node_at}
use Rattle.tree.specs.Tree.{names_of, node_names, says, chain_by, Added, Holds}
use Rattle.tree.proofs.Below.{node_below}
use Rattle.tree.proofs.Counting.{added_none, added_then}
use Rattle.tree.proofs.Marking.{says_same}
use Rattle.tree.proofs.survey.Goals as goal

more_names : (image : List ℕ) (h : Header) (n : ℕ) (d : Node) (a b c : List ℕ) → 1 ≤ n → d ≡ node_at image h n → Added a b (node_names image h (n - 1)) → Added b c (names_of d) → Added a c (node_names image h n)
unfolding node_names
more_names image h zero d a b c one e p q = absurd (omega arith)
more_names image h (suc k) d a b c one e p q =
    let back : suc k - 1 ≡ k = omega arith in
    subst (Added a c) (ap (λ (m : Node). node_names image h k ++ names_of m) e) (added_then (rw back at p) q)

more_chains : (image : List ℕ) (h : Header) (n : ℕ) (d : Node) (a b : List ℕ) → 1 ≤ n → n < 4096 → d ≡ node_at image h n → Holds a (chain_by image h (n - 1)) → Holds b (says n d (λ m. get_or a m 0)) → Holds b (chain_by image h n)
unfolding chain_by
more_chains image h zero d a b one small e p q = absurd (omega arith)
more_chains image h (suc k) d a b one small e p q =
    let back : suc k - 1 ≡ k = omega arith in
    let before = rw back at p in
    record {
      long = q.long;
      at = λ m l.
          q.at m l
          ∙ says_same (suc k) d (λ i. get_or a i 0) (chain_by image h k) m (before.at (suc k) small) (before.at m l)
          ∙ ap (λ (o : Node). says (suc k) o (chain_by image h k) m) e;
    }

pub loop-n-init : goal.loop-n-init
unfolding node_names chain_by
loop-n-init c = (omega arith, added_none _, c.requires.2)

pub name_node-requires : goal.name_node-requires
name_node-requires c =
    let b = node_below _ _ _ c.node-d.result c.node-d.ensures in
    (b.0, b.1, b.2, c.loop-n.invariant.1.long ∙ c.requires.1)

pub mark_node-requires : goal.mark_node-requires
mark_node-requires c =
    let b = node_below _ _ _ c.node-d.result c.node-d.ensures in
    (omega arith, b.0, b.2, c.loop-n.invariant.2.long)

pub loop-n-preserved : goal.loop-n-preserved
loop-n-preserved c =
    let i = c.loop-n.invariant in
    let n = c.loop-n.n in
    let d = c.node-d in
    let is = d.ensures ∙ ap (node_at c.args.image.now.bytes.now c.args.image.now.header) c.from.ensures in
    let back : n + 1 - 1 ≡ n = omega arith in
    rw back (
      omega arith,
      more_names c.args.image.now.bytes.now c.args.image.now.header n d.result _ _ _ (omega arith) is i.1 c.name_node.ensures,
      more_chains c.args.image.now.bytes.now c.args.image.now.header n d.result _ _ (omega arith) (omega arith) is i.2 c.mark_node.ensures,
    )

-- no node
pub returns-clause-of_names : goal.returns-clause-of_names
returns-clause-of_names c =
    let all : c.loop-n.n - 1 ≡ c.args.image.now.header.nodes = omega arith in
    subst (λ (k : ℕ). Added c.args.names.now c.loop-n.names (node_names c.args.image.now.bytes.now c.args.image.now.header k)) all c.loop-n.invariant.1

pub returns-clause-of_chains : goal.returns-clause-of_chains
returns-clause-of_chains c =
    let all : c.loop-n.n - 1 ≡ c.args.image.now.header.nodes = omega arith in
    subst (λ (k : ℕ). Holds c.loop-n.chains (chain_by c.args.image.now.bytes.now c.args.image.now.header k)) all c.loop-n.invariant.2

-- the last node
pub returns-2-clause-of_names : goal.returns-2-clause-of_names
returns-2-clause-of_names c =
    let n = c.loop-n.n in
    let d = c.node-d in
    let is = d.ensures ∙ ap (node_at c.args.image.now.bytes.now c.args.image.now.header) c.from.ensures in
    let last : n ≡ c.args.image.now.header.nodes = omega arith in
    subst (λ (k : ℕ). Added c.args.names.now c.name_node.new.names (node_names c.args.image.now.bytes.now c.args.image.now.header k)) last
    (more_names c.args.image.now.bytes.now c.args.image.now.header n d.result _ _ _ (omega arith) is c.loop-n.invariant.1 c.name_node.ensures)

pub returns-2-clause-of_chains : goal.returns-2-clause-of_chains
returns-2-clause-of_chains c =
    let n = c.loop-n.n in
    let d = c.node-d in
    let is = d.ensures ∙ ap (node_at c.args.image.now.bytes.now c.args.image.now.header) c.from.ensures in
    let last : n ≡ c.args.image.now.header.nodes = omega arith in
    subst (λ (k : ℕ). Holds c.mark_node.new.chains (chain_by c.args.image.now.bytes.now c.args.image.now.header k)) last
    (more_chains c.args.image.now.bytes.now c.args.image.now.header n d.result _ _ (omega arith) (omega arith) is c.loop-n.invariant.2 c.mark_node.ensures)
