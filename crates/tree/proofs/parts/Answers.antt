-- Each part is one more, and the next one's number is its a.
use Rattle.std.proofs.Common.{◌≡◌, ℕ, suc, ◌+◌, ◌-◌, ◌≤◌, ◌<◌, List, true, cond, leb, ltb, arith, sym, ap, ◌∙◌}
use native.Mathlib.Decide.{ℕ_discrete}
use borrow.Author.Tests.{lt-ltb, le-ltb, leb-true}
use Rattle.fields.proofs.Tests.{and_both}
use Rattle.packed.specs.declared.layout.Header.{Header}
use Rattle.packed.specs.declared.layout.Node.{Node}
use Rattle.packed.specs.Layout.{node_at}
use Rattle.kinds.specs.Kinds.{is_within, row_of, table}
use Rattle.records.specs.Records.{node_good}
use Rattle.tree.specs.Tree.{named, parts}
use Rattle.tree.proofs.Good.{good_node, fits_named}
use Rattle.tree.proofs.parts.Goals as goal

-- what a part's field a names is its a
named_part : (kind x : ℕ) → is_within 22 23 kind ≡ true → named (row_of kind).a x ≡ x
unfolding row_of table
named_part kind x e = go (ℕ_discrete kind 22)
  where
    range : (22 ≤ kind) × (kind ≤ 23)
    range = let both = and_both (leb 22 kind) (leb kind 23) e in (leb-true 22 kind both.0, leb-true kind 23 both.1)

    go : Dec (kind ≡ 22) → named (row_of kind).a x ≡ x
    go (yes q) = rw q
    go (no q) = let r = range in let last : kind ≡ 23 = omega arith in rw last

module _ (image : List ℕ) (h : Header) (at count : ℕ) (d : Node) (is : d ≡ node_at image h at) (less : count < 65) where
  -- the parts from here on, when one more may be counted
  turn : parts image h (65 - count) at ≡ cond (is_within 22 23 d.kind) (suc (cond (ltb at d.a) (parts image h (65 - (count + 1)) d.a) 0)) 0
  unfolding parts
  turn =
      let more : 65 - count ≡ suc (65 - (count + 1)) = omega arith in
      ap (λ (most : ℕ). parts image h most at) more
      ∙ ap (λ (o : Node). cond (is_within 22 23 o.kind) (suc (cond (ltb at o.a) (parts image h (65 - (count + 1)) o.a) 0)) 0) (sym is)

pub returns-then-not-is_part : goal.returns-then-not-is_part
returns-then-not-is_part c =
    let l = c.loop-count in
    let d = c.node-d in
    let is = d.ensures ∙ ap (node_at c.args.image.now.bytes.now c.args.image.now.header) c.from.ensures in
    let stop = turn c.args.image.now.bytes.now c.args.image.now.header l.at l.count d.result is c.loop-count-test.true in
    let none = rw (sym c.is_part.ensures ∙ c.if-not-is_part.true) at stop in
    omega (arith, l.invariant.2, none)

pub returns-then-d-at : goal.returns-then-d-at
returns-then-d-at c =
    let l = c.loop-count in
    let d = c.node-d in
    let is = d.ensures ∙ ap (node_at c.args.image.now.bytes.now c.args.image.now.header) c.from.ensures in
    let stop = turn c.args.image.now.bytes.now c.args.image.now.header l.at l.count d.result is c.loop-count-test.true in
    let one = rw (sym c.is_part.ensures ∙ c.if-not-is_part.false, le-ltb _ _ c.if-d-at.true) at stop in
    omega (arith, l.invariant.2, one)

pub loop-count-preserved : goal.loop-count-preserved
loop-count-preserved c =
    let a = c.args in
    let image = a.image.now.bytes.now in
    let l = c.loop-count in
    let d = c.node-d in
    let is = d.ensures ∙ ap (node_at image a.image.now.header) c.from.ensures in
    let stop = turn image a.image.now.header l.at l.count d.result is c.loop-count-test.true in
    let part = sym c.is_part.ensures ∙ c.if-not-is_part.false in
    let on = rw (part, lt-ltb _ _ c.if-d-at.false) at stop in
    let good = c.requires.2.good l.at l.invariant.0 l.invariant.1 in
    let there = fits_named image a.image.now.header _ d.result.a (good_node image a.image.now.header d.result (ap (node_good image a.image.now.header) is ∙ good)).a in
    let within : d.result.a ≤ a.image.now.header.nodes = rw (named_part d.result.kind d.result.a part) at there in
    (omega arith, within, omega (arith, l.invariant.2, on))

pub returns : goal.returns
unfolding parts
returns c =
    let l = c.loop-count in
    let full : l.count ≡ 65 = omega arith in
    let none : parts c.args.image.now.bytes.now c.args.image.now.header (65 - l.count) l.at ≡ 0 = rw full in
    omega (arith, l.invariant.2, none)
