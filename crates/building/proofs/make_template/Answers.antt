-- `template_refused`, `template_size`, `template_made_lem`.
use mathlib.Core.Path.{sym}
use native.Mathlib.Omega.{arith}
use Rattle.std.proofs.lemmas.Result.{err_from_is_err_and}
use Rattle.texts.proofs.OkOr.{some_of, none_of, error_of}
use Rattle.building.proofs.TemplateMade.{template_refused, template_size, ended_fits, template_made_lem}
use Rattle.building.proofs.make_template.Goals as goal

pub returns-in_err-end : goal.returns-in_err-end
returns-in_err-end c =
    let p = err_from_is_err_and c.from_residual.result c.from_residual.ensures.1 in
    let given = c.ok_or.ensures.value in
    let put = rw (sym (none_of _ _ given _ c.in_err-end.was)) at c.put_components-put.ensures in
    rw (p.1, p.2, error_of _ _ given _ c.in_err-end.was)
    (template_refused _ _ _ _ _ _ _ _ c.requires.1 c.requires.2 put)

pub overflow_sub-result : goal.overflow_sub-result
overflow_sub-result c =
    let put = rw (sym (some_of _ _ c.ok_or.ensures.value _ c.in_ok-end.was)) at c.put_components-put.ensures in
    omega (arith, template_size _ _ _ _ _ _ _ _ c.requires.1 c.requires.2 _ put)

pub overflow_cast-result-3 : goal.overflow_cast-result-3
overflow_cast-result-3 c =
    let put = rw (sym (some_of _ _ c.ok_or.ensures.value _ c.in_ok-end.was)) at c.put_components-put.ensures in
    omega (arith, template_size _ _ _ _ _ _ _ _ c.requires.1 c.requires.2 _ put)

pub returns : goal.returns
returns c =
    let put = rw (sym (some_of _ _ c.ok_or.ensures.value _ c.in_ok-end.was)) at c.put_components-put.ensures in
    template_made_lem _ _ _ _ _ _ _ _ c.requires.1 c.requires.2 _ put _ _ _ (c.keep_pending.ensures _ _ (ended_fits _ _ _ _ _ _ _ _ c.requires.1 c.requires.2 _ put))
