use Rattle.mesh_check.proofs.PlaceLemmas.{sides-next}
use Rattle.mesh_check.proofs.sides.sides_of_faces.Goals as goal

pub loop-f-preserved : goal.loop-f-preserved
loop-f-preserved c = sides-next c.args.raw.now.faces c.loop-f.f c.face.result.now _ _ c.face.ensures c.loop-f.invariant c.in_ok-add_sides.ensures
