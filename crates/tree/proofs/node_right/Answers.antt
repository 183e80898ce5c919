-- The arrays tell the chain and the counts that the definition asks.
use Rattle.std.proofs.Common.{◌≡◌, ℕ, ◌<◌, true, ◌&&◌, leb, get_or, lit<, arith, sym, ap, ap₂, ◌∙◌}
use Rattle.packed.specs.declared.layout.Header.{Header}
use Rattle.packed.specs.Layout.{node_at}
use Rattle.tree.specs.Tree.{grown, chain_by, names_well, parts, is_named_well, node_right}
use Rattle.tree.proofs.Counting.{tells}
use Rattle.tree.proofs.node_right.Goals as goal
use Rattle.tree.proofs.node_right.Goals.{then-names_well, else-names_well}

-- a count that stops at 255 tells as much as the number itself
by_counts : (h : Header) (n kind s t : ℕ) → is_named_well h n kind (grown 0 s) (grown 0 t) ≡ is_named_well h n kind s t
unfolding is_named_well
by_counts h n kind s t = rw (tells s 1 (lit< tt), tells t 0 (lit< tt))

pub returns-then-parts-le-MOST_PARTS : goal.returns-then-parts-le-MOST_PARTS
unfolding node_right
returns-then-parts-le-MOST_PARTS c =
    let p = c.requires in
    let a = c.args in
    let d = c.node-d.result in
    let is = c.from-at.ensures in
    let small : a.n < 4096 = omega (arith, p.2.few) in
    let chain : get_or a.found.now.chains c.from-at.result 0 ≡ chain_by a.image.now.bytes.now a.image.now.header a.image.now.header.nodes a.n = rw is (p.3.chained.at a.n small) in
    let front : names_well a.image.now.bytes.now a.image.now.header a.n (get_or a.found.now.chains c.from-at.result 0) d && leb (parts a.image.now.bytes.now a.image.now.header 65 a.n) 64 ≡ true =
    elim c.if-names_well.branch [
      | then-names_well w ↦ rw (sym c.names_well.ensures ∙ w.if-names_well.true, sym w.parts.ensures) (sym w.value-is ∙ c.if-parts-le-MOST_PARTS.true)
      | else-names_well w ↦ cc
    ] in
    let counts = ap₂ (is_named_well a.image.now.header a.n d.kind) (ap (λ i. get_or a.found.now.names i 0) is ∙ p.3.named.at a.n small) (ap (λ i. get_or a.found.now.bodies i 0) is ∙ p.3.as_body.at a.n small) in
    rw (sym (c.node-d.ensures ∙ ap (node_at a.image.now.bytes.now a.image.now.header) is), sym chain, front) (c.is_named_well.ensures ∙ counts ∙ by_counts a.image.now.header a.n d.kind _ _)
