use Rattle.patch_bspline.proofs.table.patch_rows.Goals as goal

pub returns-in-Err : goal.returns-in-Err
returns-in-Err c = c.patch_fault.ensures c.args.level.now.level c.args.face c.args.grid c.args.table.now c.requires.has c.in-Err.ensures
