-- Each exit by `assign_by`.
use mathlib.Core.Path.{refl}
use Rattle.targets.proofs.TargetLaws.{error_is, assign_by, refuses, assign_unread, assign_refused, assign_done}
use Rattle.targets.proofs.assign_target.Goals as goal

pub returns-in_err-place-clause-store : goal.returns-in_err-place-clause-store
returns-in_err-place-clause-store c =
    let a = c.args in
    rw (error_is _ _ c.from_residual.ensures.1)
    (assign_by _ _ _ a.image.now.header a.t a.v _ _ _ _ _ _ _ c.in_err-place.was (rw (c.shared.ensures.run, c.shared.ensures.words) at c.target_place.ensures) a.n a.op (refuses _ _ _ _ _ a.stores.now.fits refl))

pub returns-in_err-old-clause-store : goal.returns-in_err-old-clause-store
returns-in_err-old-clause-store c =
    let a = c.args in
    rw (error_is _ _ c.from_residual-in_err-old.ensures.1)
    (assign_by _ _ _ a.image.now.header a.t a.v _ _ _ _ _ _ _ c.in_ok-place.was (rw (c.shared.ensures.run, c.shared.ensures.words) at c.target_place.ensures) a.n a.op
    (assign_unread a.image.now.bytes.now a.image.now.header a.n a.op a.t a.v _ _ _ _ _ a.stores.now.fits (rw (c.shared-2.ensures.run, c.shared-2.ensures.words) at c.in_err-old.ensures)))

pub returns-in_err-new-clause-store : goal.returns-in_err-new-clause-store
returns-in_err-new-clause-store c =
    let a = c.args in
    rw (error_is _ _ c.from_residual-in_err-new.ensures.1)
    (assign_by _ _ _ a.image.now.header a.t a.v _ _ _ _ _ _ _ c.in_ok-place.was (rw (c.shared.ensures.run, c.shared.ensures.words) at c.target_place.ensures) a.n a.op
    (assign_refused a.image.now.bytes.now a.image.now.header a.n a.op a.t a.v _ _ _ _ _ (rw (c.shared-2.ensures.run, c.shared-2.ensures.words) at c.in_ok-old.ensures) _ a.stores.now.fits (c.in_err-new.ensures)))

pub returns-clause-store : goal.returns-clause-store
returns-clause-store c =
    let a = c.args in
    assign_by _ _ _ a.image.now.header a.t a.v _ _ _ _ _ _ _ c.in_ok-place.was (rw (c.shared.ensures.run, c.shared.ensures.words) at c.target_place.ensures) a.n a.op
    (assign_done a.image.now.bytes.now a.image.now.header a.n a.op a.t a.v _ _ _ _ _ (rw (c.shared-2.ensures.run, c.shared-2.ensures.words) at c.in_ok-old.ensures) _ _ _ _ (c.in_ok-new.ensures) c.put_at.ensures.store)
