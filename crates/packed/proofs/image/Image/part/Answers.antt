-- Each field is cut out of the payload (`cut_field`).
use mathlib.Core.Path.{refl, ap, ◌∙◌}
use Prim.Native.Nat.{ℕ, ◌+◌, ◌*◌}
use Rattle.fields.specs.Field.{field_of}
use Rattle.fields.proofs.Laws.{cut_field}
use Rattle.packed.specs.Layout.{part_at, literal_offset}
use Rattle.packed.proofs.image.Image.part.Goals as goal

pub returns : goal.returns
unfolding part_at
returns c =
    let a = c.args in
    let w = c.number_at-w in
    let there = w.ensures.0 ∙ ap (λ (m : ℕ). field_of a.self.now.bytes.now (8 * (m + 10 * a.l + 2)) 64) c.literals_at.ensures in
    let f = cut_field 64 a.self.now.bytes.now (8 * (literal_offset a.self.now.header a.l + 2)) w.result in
    λ i.
    record {
      zero = f 0 32 32 c.cut.result there refl c.cut.ensures.0 i;
      start = f 32 16 16 c.cut-2.result there refl c.cut-2.ensures.0 i;
      length = f 48 16 0 c.cut-3.result there refl c.cut-3.ensures.0 i;
    }
