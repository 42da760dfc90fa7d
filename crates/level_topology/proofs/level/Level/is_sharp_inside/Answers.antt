use Rattle.std.proofs.Common.{ap, sym, ◌∙◌}
use Rattle.subdiv_model.specs.Sharpness.{is_sharp}
use Rattle.level_topology.proofs.LawLemmas.{own-number}
use Rattle.level_topology.proofs.level.Level.is_sharp_inside.Goals as goal

pub returns-then-not-is_boundary : goal.returns-then-not-is_boundary
returns-then-not-is_boundary c =
    rw (own-number c.args.self.now.level.polygons c.args.e c.requires, sym c.is_boundary.ensures, c.if-not-is_boundary.true) (c.is_sharp.ensures ∙ ap is_sharp c.edge_sharpness.ensures)
