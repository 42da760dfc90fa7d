use Rattle.limit_stencils.proofs.points.limit_points_of_quads.Goals as goal

pub returns-clause-values : goal.returns-clause-values
returns-clause-values g c = rw c.in_ok-masks.ensures.0 at c.points_of_masks.ensures.values
