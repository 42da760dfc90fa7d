use Rattle.obj_out.proofs.PutsLemmas.{puts-after, puts-cut}
use Rattle.obj_out.proofs.put.Out.put_count.Goals as goal

pub returns-in_err-put_bytes : goal.returns-in_err-put_bytes
returns-in_err-put_bytes g c =
    puts-cut _ c.from_residual.ensures.0 c.in_err-put_bytes.ensures

pub returns : goal.returns
returns g c =
    puts-after c.in_ok-put_bytes.ensures c.put_number_after.ensures
