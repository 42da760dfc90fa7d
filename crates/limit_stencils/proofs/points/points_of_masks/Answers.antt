use Rattle.limit_stencils.proofs.points.points_of_masks.Goals as goal

pub returns-in-Err-clause-values : goal.returns-in-Err-clause-values
returns-in-Err-clause-values g c = c.quad_fault.ensures c.args.masks.now.level c.args.table.now c.requires.limits c.in-Err.ensures.values
