-- `object_full`, `object_over`, `object_made_lem`.
use mathlib.Core.Path.{sym}
use Rattle.std.proofs.lemmas.Result.{err_from_is_err_and}
use Rattle.texts.proofs.OkOr.{some_of, none_of, error_of}
use Rattle.building.proofs.ObjectMade.{object_full, object_over, ended_fits, object_made_lem}
use Rattle.building.proofs.make_object.Goals as goal

pub returns-then-run-ge-MOST_CELLS : goal.returns-then-run-ge-MOST_CELLS
returns-then-run-ge-MOST_CELLS c =
    let a = c.args in
    object_full a.image.now.bytes.now a.image.now.header a.n a.from a.run.now a.words.now c.requires.1 c.if-run-ge-MOST_CELLS.true

pub returns-in_err-end : goal.returns-in_err-end
returns-in_err-end c =
    let p = err_from_is_err_and c.from_residual.result c.from_residual.ensures.1 in
    let given = c.ok_or.ensures.value in
    let put = rw c.put_head.ensures at c.put_entries.ensures in
    rw (p.1, p.2, error_of _ _ given _ c.in_err-end.was)
    (object_over _ _ _ _ _ _ c.requires.1 c.if-run-ge-MOST_CELLS.false _ _ put (sym (none_of _ _ given _ c.in_err-end.was)))

pub returns : goal.returns
returns c =
    let put = rw c.put_head.ensures at c.put_entries.ensures in
    let is = sym (some_of _ _ c.ok_or.ensures.value _ c.in_ok-end.was) in
    let fits = ended_fits _ _ _ _ _ _ c.requires.1 c.if-run-ge-MOST_CELLS.false _ _ put _ is in
    λ bytes. object_made_lem _ _ _ _ _ _ c.requires.1 c.if-run-ge-MOST_CELLS.false _ _ put _ is bytes _ _ _ (c.keep_pending.ensures _ bytes fits)
