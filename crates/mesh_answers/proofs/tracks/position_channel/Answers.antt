use Rattle.std.proofs.Common.{◌∙◌}
use Rattle.mesh_answers.proofs.PositionLemmas.{base-of, same-channel, short-channel}
use Rattle.mesh_answers.proofs.tracks.position_channel.Goals as goal

pub new-requires-clause-base : goal.new-requires-clause-base
new-requires-clause-base c = base-of c.args.mesh.now c.args.level c.requires

pub new-requires-clause-short : goal.new-requires-clause-short
new-requires-clause-short c =
    short-channel c.args.mesh.now c.args.level c.points.result.now c.greatest_of_points-greatest.result c.scale.result c.requires
    c.points.ensures c.greatest_of_points-greatest.ensures c.scale.ensures c.facts.ensures

pub returns : goal.returns
returns c =
    c.new.ensures
    ∙ same-channel c.args.mesh.now c.args.level c.points.result.now c.greatest_of_points-greatest.result c.scale.result c.requires
    c.points.ensures c.greatest_of_points-greatest.ensures c.scale.ensures
