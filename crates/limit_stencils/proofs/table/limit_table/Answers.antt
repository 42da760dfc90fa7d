use Rattle.limit_stencils.proofs.table.limit_table.Goals as goal

pub returns-in-Err : goal.returns-in-Err
returns-in-Err c = c.limit_fault.ensures c.args.level.now.level c.args.table.now c.in-Err.ensures
