-- `place_name`, `place_field`, `place_index`, `place_stopped`.
use Rattle.targets.proofs.TargetNodes.{part_before, key_there}
use Rattle.targets.proofs.TargetLaws.{error_is, place_name, place_field, place_index, place_stopped}
use Rattle.targets.proofs.target_place.Goals as goal

pub returns-then-node-eq21 : goal.returns-then-node-eq21
returns-then-node-eq21 c = place_name _ _ _ _ _ _ c.node-node.ensures _ c.if-node-eq21.true c.name_place.ensures

pub get_target-requires : goal.get_target-requires
get_target-requires c = part_before _ _ _ c.requires _ c.node-node.ensures c.if-node-eq21.false

pub returns-in_err-v : goal.returns-in_err-v
returns-in_err-v c =
    rw (error_is _ _ c.from_residual.ensures.1)
    (place_stopped _ _ _ _ _ _ c.node-node.ensures c.if-node-eq21.false _ c.get_target.ensures _ c.in_err-v.was)

pub field_place-requires : goal.field_place-requires
field_place-requires c = key_there _ _ _ c.requires _ c.node-node.ensures c.if-node-eq22.true

pub returns-then-node-eq22 : goal.returns-then-node-eq22
returns-then-node-eq22 c =
    place_field _ _ _ _ _ _ c.node-node.ensures c.if-node-eq21.false _ c.get_target.ensures _ _ c.in_ok-v.was c.if-node-eq22.true c.field_place.ensures

pub returns : goal.returns
returns c =
    place_index _ _ _ _ _ _ c.node-node.ensures c.if-node-eq21.false _ c.get_target.ensures _ _ c.in_ok-v.was c.if-node-eq22.false c.index_place.ensures
