use Rattle.std.proofs.Common.{◌∙◌, ap, false}
use Rattle.std.specs.List.{filter}
use Rattle.level_builder.specs.Keys.{is_named}
use Rattle.mesh_check.proofs.BoundaryLemmas.{boundary-found}
use Rattle.mesh_check.proofs.boundary.boundary_sides.Goals as goal

pub returns : goal.returns
returns c =
    c.in_ok-found.ensures
    ∙ ap (λ edges. filter (is_named false edges) c.args.sides.now) c.deref.ensures.value
    ∙ boundary-found c.args.sides.now c.args.edges.now _ c.requires c.in_ok-once.ensures.once
