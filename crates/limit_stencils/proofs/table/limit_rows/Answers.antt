use Rattle.limit_stencils.proofs.table.limit_rows.Goals as goal

pub returns-in-Err : goal.returns-in-Err
returns-in-Err c = c.quad_fault.ensures c.args.masks.now.level c.args.table.now c.requires.limits c.in-Err.ensures
