-- Its parts are read from the name on; `most` falls.
use mathlib.Core.Path.{refl}
use native.Mathlib.Omega.{arith}
use Rattle.targets.proofs.TargetNodes.{part_before, key_there}
use Rattle.targets.proofs.TargetLaws.{error_is, read_none, read_name, read_stopped, read_field, read_index}
use Rattle.targets.proofs.+read_most.Goals as goal

pub returns-then-most-eq0 : goal.returns-then-most-eq0
returns-then-most-eq0 t c = read_none _ _ _ _ _ _ c.if-most-eq0.true

pub returns-in_err-place : goal.returns-in_err-place
returns-in_err-place t c =
    rw (error_is _ _ c.from_residual.ensures.1)
    (read_name _ _ _ _ _ _ c.node-node.ensures _ c.if-most-eq0.false _ _ _ c.in_err-place.was c.if-node-eq21.true c.name_place.ensures (record { is = λ bytes. refl }))

pub returns-then-node-eq21 : goal.returns-then-node-eq21
returns-then-node-eq21 t c =
    read_name _ _ _ _ _ _ c.node-node.ensures _ c.if-most-eq0.false _ _ _ c.in_ok-place.was c.if-node-eq21.true c.name_place.ensures c.read_at.ensures

pub read_most-requires : goal.read_most-requires
read_most-requires t c = (omega (arith, c.if-most-eq0.false), part_before _ _ _ c.requires _ c.node-node.ensures c.if-node-eq21.false)

pub returns-in_err-v : goal.returns-in_err-v
returns-in_err-v t c =
    rw (error_is _ _ c.from_residual-in_err-v.ensures.1)
    (read_stopped _ _ _ _ _ _ c.node-node.ensures _ c.if-most-eq0.false c.if-node-eq21.false _ c.read_most.ensures _ c.in_err-v.was)

pub field_place-requires : goal.field_place-requires
field_place-requires t c = key_there _ _ _ c.requires _ c.node-node.ensures c.if-node-eq22.true

pub returns-in_err-place-2 : goal.returns-in_err-place-2
returns-in_err-place-2 t c =
    rw (error_is _ _ c.from_residual-in_err-place-2.ensures.1)
    (read_field _ _ _ _ _ _ c.node-node.ensures _ c.if-most-eq0.false c.if-node-eq21.false _ c.read_most.ensures _ c.in_ok-v.was _ _ _ c.in_err-place-2.was c.if-node-eq22.true c.field_place.ensures (record { is = λ bytes. refl }))

pub returns-then-node-eq22 : goal.returns-then-node-eq22
returns-then-node-eq22 t c =
    read_field _ _ _ _ _ _ c.node-node.ensures _ c.if-most-eq0.false c.if-node-eq21.false _ c.read_most.ensures _ c.in_ok-v.was _ _ _ c.in_ok-place-2.was c.if-node-eq22.true c.field_place.ensures c.read_at-then-node-eq22.ensures

pub returns-in_err-place-3 : goal.returns-in_err-place-3
returns-in_err-place-3 t c =
    rw (error_is _ _ c.from_residual-in_err-place-3.ensures.1)
    (read_index _ _ _ _ _ _ c.node-node.ensures _ c.if-most-eq0.false c.if-node-eq21.false _ c.read_most.ensures _ c.in_ok-v.was _ _ _ c.in_err-place-3.was c.if-node-eq22.false c.index_place.ensures (record { is = λ bytes. refl }))

pub returns : goal.returns
returns t c =
    read_index _ _ _ _ _ _ c.node-node.ensures _ c.if-most-eq0.false c.if-node-eq21.false _ c.read_most.ensures _ c.in_ok-v.was _ _ _ c.in_ok-place-3.was c.if-node-eq22.false c.index_place.ensures c.read_at-2.ensures
