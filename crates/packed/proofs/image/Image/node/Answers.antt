-- Each field is cut out of the record's word (`cut_field`).
use mathlib.Core.Path.{refl, ap, ◌∙◌}
use Prim.Native.Nat.{ℕ, ◌+◌, ◌-◌, ◌*◌}
use Rattle.fields.proofs.Laws.{cut_field}
use Rattle.packed.specs.Layout.{node_at, node_offset}
use Rattle.fields.specs.Field.{field_of}
use Rattle.packed.proofs.image.Image.node.Goals as goal

pub returns : goal.returns
unfolding node_at
returns c =
    let a = c.args in
    let w = c.number_at-w in
    let there = w.ensures.0 ∙ ap (λ (m : ℕ). field_of a.self.now.bytes.now (8 * (m + 8 * (a.n - 1))) 64) c.nodes_at.ensures in
    let f = cut_field 64 a.self.now.bytes.now (8 * node_offset a.self.now.header a.n) w.result in
    λ i.
    record {
      kind = f 0 5 59 c.cut.result there refl c.cut.ensures.0 i;
      op = f 5 4 55 c.cut-2.result there refl c.cut-2.ensures.0 i;
      tag = f 9 10 45 c.cut-3.result there refl c.cut-3.ensures.0 i;
      a = f 19 12 33 c.cut-4.result there refl c.cut-4.ensures.0 i;
      b = f 31 12 21 c.cut-5.result there refl c.cut-5.ensures.0 i;
      next = f 43 12 9 c.cut-6.result there refl c.cut-6.ensures.0 i;
      zero = f 55 9 0 c.cut-7.result there refl c.cut-7.ensures.0 i;
    }
