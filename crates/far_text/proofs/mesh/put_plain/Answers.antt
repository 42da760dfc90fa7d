use Rattle.obj_out.proofs.PutsLemmas.{puts-after, puts-cut, puts-same}
use Rattle.far_text.proofs.PartsLemmas.{mesh-by-parts}
use Rattle.far_text.proofs.mesh.put_plain.Goals as goal

pub returns-in_err-put_points : goal.returns-in_err-put_points
returns-in_err-put_points g c =
    puts-same (mesh-by-parts c.args.mesh.now c.args.form _ c.deref.ensures.value c.facts.ensures.formed)
    (puts-cut _ c.from_residual.ensures.0 c.in_err-put_points.ensures)

pub returns : goal.returns
returns g c =
    puts-same (mesh-by-parts c.args.mesh.now c.args.form _ c.deref.ensures.value c.facts.ensures.formed)
    (puts-after c.in_ok-put_points.ensures c.put_faces.ensures)
