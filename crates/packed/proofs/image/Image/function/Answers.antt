-- Each field is cut out of the record's word (`cut_field`).
use mathlib.Core.Path.{refl}
use Prim.Native.Nat.{◌*◌}
use Rattle.fields.proofs.Laws.{cut_field}
use Rattle.packed.specs.Layout.{function_at, function_offset}
use Rattle.packed.proofs.image.Image.function.Goals as goal

pub returns : goal.returns
unfolding function_at
returns c =
    let a = c.args in
    let w = c.number_at-w in
    let f = cut_field 32 a.self.now.bytes.now (8 * function_offset a.f) w.result in
    λ i.
    record {
      body = f 0 12 20 c.cut.result w.ensures.0 refl c.cut.ensures.0 i;
      count = f 12 4 16 c.cut-2.result w.ensures.0 refl c.cut-2.ensures.0 i;
      first = f 16 10 6 c.cut-3.result w.ensures.0 refl c.cut-3.ensures.0 i;
      zero = f 26 6 0 c.cut-4.result w.ensures.0 refl c.cut-4.ensures.0 i;
    }
