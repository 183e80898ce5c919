-- The head is cut out of two bytes (`cut_field`), and the payload is the word after them.
use mathlib.Core.Path.{◌≡◌, refl, ap, ◌∙◌}
use Prim.Native.Nat.{ℕ, ◌+◌, ◌*◌}
use native.Mathlib.Omega.{arith}
use Rattle.fields.specs.Field.{field_of}
use Rattle.fields.proofs.Laws.{cut_field}
use Rattle.packed.specs.Layout.{literal_at, literal_offset}
use Rattle.packed.proofs.image.Image.literal.Goals as goal

pub returns : goal.returns
unfolding literal_at
returns c =
    let p = c.number_at-w in
    let l = c.literals_at in
    let a = c.args in
    let image = a.self.now.bytes.now in
    let there = p.ensures.0 ∙ ap (λ (m : ℕ). field_of image (8 * (m + 10 * a.l)) 16) l.ensures in
    let f = cut_field 16 image (8 * literal_offset a.self.now.header a.l) p.result in
    let past : 8 * (l.result + 10 * a.l + 2) ≡ 8 * literal_offset a.self.now.header a.l + 16 = omega (arith, l.ensures) in
    λ i.
    record {
      kind = f 0 4 12 c.cut.result there refl c.cut.ensures.0 i;
      zero = f 4 12 0 c.cut-2.result there refl c.cut-2.ensures.0 i;
      payload = (c.number_at.ensures.0 ∙ ap (λ (m : ℕ). field_of image m 64) past) i;
    }
