use Rattle.mesh_check.proofs.GroupFanLemmas.{befores-distinct}
use Rattle.mesh_check.proofs.SplitLemmas.{front-group-of, front-group-rises, first-group-is}
use Rattle.mesh_check.specs.Groups.{first_vertex}
use Rattle.mesh_check.proofs.split.first_group.Goals as goal

pub is_group_fan-requires-clause-rises : goal.is_group_fan-requires-clause-rises
is_group_fan-requires-clause-rises c = front-group-rises c.args.raw.now.faces c.args.turns.now _ c.requires.groups c.requires.some c.group_size-size.ensures

pub is_group_fan-requires-clause-once : goal.is_group_fan-requires-clause-once
is_group_fan-requires-clause-once c =
    befores-distinct c.args.raw.now.faces (first_vertex c.args.turns.now) _ _ _ c.requires.simple c.requires.once (front-group-of c.args.raw.now.faces c.args.turns.now _ c.requires.groups c.requires.some c.group_size-size.ensures)

pub returns : goal.returns
returns c =
    let faces = c.args.raw.now.faces in
    let turns = c.args.turns.now in
    first-group-is faces turns _ c.requires.groups c.requires.some c.group_size-size.ensures _
    (c.in_ok-is.ensures faces (first_vertex turns) _ (front-group-of faces turns _ c.requires.groups c.requires.some c.group_size-size.ensures) c.requires.simple c.requires.once)
