use Rattle.obj_out.proofs.PutsLemmas.{puts-after, puts-cut}
use Rattle.table_file.proofs.put.put_share.Goals as goal

pub returns-in_err-put_control : goal.returns-in_err-put_control
returns-in_err-put_control g c =
    puts-cut _ c.from_residual.ensures.0 c.in_err-put_control.ensures

pub returns : goal.returns
returns g c =
    puts-after c.in_ok-put_control.ensures c.put_wide_after.ensures
