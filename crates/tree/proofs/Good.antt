-- What a good node's record says of its fields. Assumes nothing.
use mathlib.Core.Path.{◌≡◌}
use mathlib.Core.Bool.{true, false, ◌&&◌}
use mathlib.Core.List.{List}
use Prim.Native.Nat.{ℕ, ◌≤◌, ◌<◌}
use Rattle.std.proofs.Common.{zero-le}
use borrow.Author.Tests.{leb-true, ltb-true, eqb-true}
use lib.Dec.{leb, ltb, eqb}
use Rattle.fields.proofs.Tests.{and_both}
use Rattle.packed.specs.declared.layout.Header.{Header}
use Rattle.packed.specs.declared.layout.Node.{Node}
use Rattle.kinds.specs.declared.Role.{Role}
use Rattle.kinds.specs.declared.Role.TheVariants.{Unlisted, Number, Literal, Text, Function, Node as NodeRole}
use Rattle.kinds.specs.Kinds.{row_of, tag_role}
use Rattle.records.specs.Records.{fits, node_good}
use Rattle.tree.specs.Tree.{named}

pub record Good (image : List ℕ) (h : Header) (d : Node) : Type 0 where
  pub op : d.op < (row_of d.kind).ops
  pub zero : d.zero ≡ 0
  pub next : d.next ≤ h.nodes
  pub tag : fits image h (tag_role d.kind d.op) d.tag ≡ true
  pub a : fits image h (row_of d.kind).a d.a ≡ true
  pub b : fits image h (row_of d.kind).b d.b ≡ true

pub good_node : (image : List ℕ) (h : Header) (d : Node) → node_good image h d ≡ true → Good image h d
unfolding node_good
good_node image h d e =
    let row = row_of d.kind in
    let ops = ltb d.op row.ops in
    let zero = eqb d.zero 0 in
    let next = leb d.next h.nodes in
    let tag = fits image h (tag_role d.kind d.op) d.tag in
    let a = fits image h row.a d.a in
    let five = and_both (ops && zero && next && tag && a) (fits image h row.b d.b) e in
    let four = and_both (ops && zero && next && tag) a five.0 in
    let three = and_both (ops && zero && next) tag four.0 in
    let two = and_both (ops && zero) next three.0 in
    let one = and_both ops zero two.0 in
    record {
      op = ltb-true d.op row.ops one.0;
      zero = eqb-true d.zero 0 one.1;
      next = leb-true d.next h.nodes two.1;
      tag = three.1;
      a = four.1;
      b = five.1;
    }

-- what a field names is there
pub fits_named : (image : List ℕ) (h : Header) (role : Role) (x : ℕ) → fits image h role x ≡ true → named role x ≤ h.nodes
unfolding fits
fits_named image h Unlisted x e = zero-le
fits_named image h Number x e = zero-le
fits_named image h Literal x e = zero-le
fits_named image h Text x e = zero-le
fits_named image h Function x e = zero-le
fits_named image h (NodeRole true heads class) x e = leb-true x h.nodes (and_both (ltb 0 x) (leb x h.nodes) e).1
fits_named image h (NodeRole false heads class) x e = leb-true x h.nodes e
