use Rattle.obj_out.proofs.PutsLemmas.{puts-after, puts-cut}
use Rattle.obj_out.proofs.put.Out.put_long_after.Goals as goal

pub returns-in_err-put_byte : goal.returns-in_err-put_byte
returns-in_err-put_byte g c =
    puts-cut _ c.from_residual.ensures.0 c.in_err-put_byte.ensures

pub returns : goal.returns
returns g c =
    puts-after c.in_ok-put_byte.ensures c.put_wide.ensures
