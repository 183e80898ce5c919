-- Each field is cut out of the record's word (`cut_field`).
use mathlib.Core.Path.{refl}
use Prim.Native.Nat.{◌*◌}
use Rattle.fields.proofs.Laws.{cut_field}
use Rattle.packed.specs.Layout.{header_of}
use Rattle.packed.proofs.layout.header_of.Goals as goal

pub returns : goal.returns
unfolding header_of
returns c =
    let a = c.args in
    let w = c.number_at-w in
    let f = cut_field 64 a.image.now (8 * 0) w.result in
    λ i.
    record {
      edition = f 0 4 60 c.cut.result w.ensures.0 refl c.cut.ensures.0 i;
      functions = f 4 8 52 c.cut-2.result w.ensures.0 refl c.cut-2.ensures.0 i;
      nodes = f 12 12 40 c.cut-3.result w.ensures.0 refl c.cut-3.ensures.0 i;
      literals = f 24 12 28 c.cut-4.result w.ensures.0 refl c.cut-4.ensures.0 i;
      text = f 36 16 12 c.cut-5.result w.ensures.0 refl c.cut-5.ensures.0 i;
      root = f 52 12 0 c.cut-6.result w.ensures.0 refl c.cut-6.ensures.0 i;
    }
