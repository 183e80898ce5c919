-- `join_none`, `join_not`, `join_all`.
use mathlib.Core.Path.{◌∙◌}
use native.Mathlib.Omega.{arith}
use Rattle.numbers.proofs.DecimalLaws.{ended}
use Rattle.std.proofs.lemmas.Result.{err_from_is_err_and}
use Rattle.texts.proofs.OkOr.{some_of, none_of, error_of}
use Rattle.texts.proofs.Joins.{join_none, join_not, join_all}
use Rattle.texts.proofs.join.Goals as goal

pub returns-in_err-middle : goal.returns-in_err-middle
returns-in_err-middle c =
    let a = c.args in
    let p = err_from_is_err_and c.from_residual.result c.from_residual.ensures.1 in
    let given = c.ok_or.ensures.value in
    rw (p.1, p.2, error_of _ _ given _ c.in_err-middle.was)
    (join_none a.image.now.bytes.now a.image.now.header a.n a.start a.len a.start2 a.len2 a.run.now a.bytes.now c.requires.0 c.requires.1
    _ c.put_text.ensures.bytes (none_of _ _ given _ c.in_err-middle.was ∙ c.put_text.ensures.end))

pub put_text-requires-2 : goal.put_text-requires-2
put_text-requires-2 c =
    let first = ended c.args.bytes.now _ _ (some_of _ _ c.ok_or.ensures.value _ c.in_ok-middle.was ∙ c.put_text.ensures.end) in
    omega arith

pub returns-in_err-end : goal.returns-in_err-end
returns-in_err-end c =
    let a = c.args in
    let p = err_from_is_err_and c.from_residual-in_err-end.result c.from_residual-in_err-end.ensures.1 in
    let given = c.ok_or-2.ensures.value in
    rw (p.1, p.2, error_of _ _ given _ c.in_err-end.was)
    (join_not a.image.now.bytes.now a.image.now.header a.n a.start a.len a.start2 a.len2 a.run.now a.bytes.now c.requires.0 c.requires.1
    _ c.put_text.ensures.bytes _ (some_of _ _ c.ok_or.ensures.value _ c.in_ok-middle.was ∙ c.put_text.ensures.end)
    _ c.put_text-2.ensures.bytes (none_of _ _ given _ c.in_err-end.was ∙ c.put_text-2.ensures.end))

pub overflow_sub-result : goal.overflow_sub-result
overflow_sub-result c =
    let first = ended c.args.bytes.now _ _ (some_of _ _ c.ok_or.ensures.value _ c.in_ok-middle.was ∙ c.put_text.ensures.end) in
    let second = ended c.put_text.new.bytes _ _ (some_of _ _ c.ok_or-2.ensures.value _ c.in_ok-end.was ∙ c.put_text-2.ensures.end) in
    omega arith

pub overflow_cast-result-3 : goal.overflow_cast-result-3
overflow_cast-result-3 c =
    let second = ended c.put_text.new.bytes _ _ (some_of _ _ c.ok_or-2.ensures.value _ c.in_ok-end.was ∙ c.put_text-2.ensures.end) in
    omega (arith, c.put_text.auto.bytes, c.requires.0)

pub returns : goal.returns
returns c =
    let a = c.args in
    join_all a.image.now.bytes.now a.image.now.header a.n a.start a.len a.start2 a.len2 a.run.now a.bytes.now c.requires.0 c.requires.1
    _ c.put_text.ensures.bytes _ (some_of _ _ c.ok_or.ensures.value _ c.in_ok-middle.was ∙ c.put_text.ensures.end)
    _ c.put_text-2.ensures.bytes _ (some_of _ _ c.ok_or-2.ensures.value _ c.in_ok-end.was ∙ c.put_text-2.ensures.end)
