-- `pool_none`, `pool_all`.
use mathlib.Core.Path.{◌∙◌}
use native.Mathlib.Omega.{arith}
use Rattle.texts.proofs.Parts.{length_part}
use Rattle.texts.proofs.TextLaws.{put_mid_is, pool_none, pool_all}
use Rattle.texts.proofs.put_text.Goals as goal

pub returns-then-not-has_room : goal.returns-then-not-has_room
returns-then-not-has_room c =
    let a = c.args in
    let kept = pool_none a.image.now.bytes.now a.image.now.header c.args.image.now.whole a.made a.start a.len a.bytes.now _ c.sources_of-from.ensures a.at c.requires (omega arith) in
    record { end = kept.0; bytes = kept.1 }

pub returns : goal.returns
returns c =
    let a = c.args in
    let first = c.sources_of-from.result.image in
    let from = c.sources_of-from.ensures in
    let size = length_part first.from first.count a.image.now.bytes.now (omega (arith, from.in_image)) in
    let put =
    pool_all a.image.now.bytes.now a.image.now.header c.args.image.now.whole a.made a.start a.len a.bytes.now _ from a.at c.requires _ _ (omega arith)
    (put_mid_is a.bytes.now a.at _ _ _ (c.copy_bytes.ensures ∙ c.of.ensures) (omega (arith, size)) (omega arith))
    c.copy_built.ensures in
    record { end = put.0; bytes = put.1 }
