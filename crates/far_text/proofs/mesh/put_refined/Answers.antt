use Rattle.obj_out.proofs.PutsLemmas.{puts-after, puts-cut}
use Rattle.far_text.proofs.mesh.put_refined.Goals as goal

pub returns-in_err-put_bytes : goal.returns-in_err-put_bytes
returns-in_err-put_bytes g c =
    puts-cut _ c.from_residual.ensures.0 c.in_err-put_bytes.ensures

pub returns-in_err-put_lines : goal.returns-in_err-put_lines
returns-in_err-put_lines g c =
    puts-after c.in_ok-put_bytes.ensures (puts-cut _ c.from_residual-in_err-put_lines.ensures.0 c.in_err-put_lines.ensures)

pub returns : goal.returns
returns g c =
    puts-after c.in_ok-put_bytes.ensures (puts-after c.in_ok-put_lines.ensures c.put_tags_of.ensures)
