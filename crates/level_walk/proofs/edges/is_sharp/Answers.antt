use Rattle.std.proofs.Common.{ap, ◌∙◌}
use Rattle.subdiv_model.specs.Sharpness.{is_sharp}
use Rattle.level_topology.proofs.LawLemmas.{own-number}
use Rattle.level_walk.proofs.edges.is_sharp.Goals as goal

pub returns : goal.returns
returns c =
    rw (own-number c.args.level.now.level.polygons c.args.e c.requires) (c.is_sharp.ensures ∙ ap is_sharp c.edge_sharpness.ensures)
