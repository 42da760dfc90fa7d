use Rattle.obj_out.proofs.PutsLemmas.{puts-after, puts-cut}
use Rattle.far_text.proofs.summary.put_greatest.Goals as goal

pub returns-in_err-put_bytes : goal.returns-in_err-put_bytes
returns-in_err-put_bytes g c =
    puts-cut _ c.from_residual.ensures.0 c.in_err-put_bytes.ensures

pub returns-in_err-put_wide_after : goal.returns-in_err-put_wide_after
returns-in_err-put_wide_after g c =
    puts-after c.in_ok-put_bytes.ensures (puts-cut _ c.from_residual-in_err-put_wide_after.ensures.0 c.in_err-put_wide_after.ensures)

pub returns : goal.returns
returns g c =
    puts-after c.in_ok-put_bytes.ensures (puts-after c.in_ok-put_wide_after.ensures c.put_byte.ensures)
