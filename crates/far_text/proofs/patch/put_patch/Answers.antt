use Rattle.obj_out.proofs.PutsLemmas.{puts-after, puts-cut}
use Rattle.far_text.proofs.patch.put_patch.Goals as goal

pub returns-in_err-put_face : goal.returns-in_err-put_face
returns-in_err-put_face g c = puts-cut _ c.from_residual.ensures.0 c.in_err-put_face.ensures

pub returns : goal.returns
returns g c = puts-after c.in_ok-put_face.ensures c.put_places.ensures
