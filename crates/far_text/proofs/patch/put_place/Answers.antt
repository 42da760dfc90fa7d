use Rattle.obj_out.proofs.PutsLemmas.{puts-after, puts-cut}
use Rattle.far_text.proofs.patch.put_place.Goals as goal

pub returns-in_err-put_count : goal.returns-in_err-put_count
returns-in_err-put_count g c = puts-cut _ c.from_residual.ensures.0 c.in_err-put_count.ensures

pub returns : goal.returns
returns g c = puts-after c.in_ok-put_count.ensures c.put_number_after.ensures
