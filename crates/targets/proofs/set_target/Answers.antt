-- Each place by `set_by`.
use mathlib.Core.Path.{refl}
use Rattle.targets.proofs.TargetLaws.{error_is, absent_field, set_by, set_at, wrote, refuses}
use Rattle.targets.proofs.set_target.Goals as goal

pub returns-in_err-place-clause-store : goal.returns-in_err-place-clause-store
returns-in_err-place-clause-store c =
    rw (error_is _ _ c.from_residual.ensures.1)
    (set_by _ _ _ c.args.image.now.header c.args.t c.args.v _ _ _ _ _ _ _ c.in_err-place.was (rw (c.shared.ensures.run, c.shared.ensures.words) at c.target_place.ensures) (refuses _ _ _ _ _ c.args.stores.now.fits refl))

pub set_field-requires : goal.set_field-requires
set_field-requires c = (c.requires, absent_field _ _ _ _ _ _ (rw c.in-Absent.is at (rw (c.shared.ensures.run, c.shared.ensures.words) at c.in_ok-place.ensures)))

pub returns-in-Absent-clause-store : goal.returns-in-Absent-clause-store
returns-in-Absent-clause-store c =
    set_by _ _ _ c.args.image.now.header c.args.t c.args.v _ _ _ _ _ _ _ c.in_ok-place.was (rw (c.shared.ensures.run, c.shared.ensures.words) at c.target_place.ensures) (rw c.in-Absent.is c.set_field.ensures.store)

pub returns-clause-store : goal.returns-clause-store
returns-clause-store c =
    let a = c.args in
    set_by _ _ _ a.image.now.header a.t a.v _ _ _ _ _ _ _ c.in_ok-place.was (rw (c.shared.ensures.run, c.shared.ensures.words) at c.target_place.ensures)
    (wrote _ _ _ _ _ _ _ _ (set_at a.image.now.bytes.now a.image.now.header a.t a.v _ c.in_default.not-Absent _) c.put_at.ensures.store)
