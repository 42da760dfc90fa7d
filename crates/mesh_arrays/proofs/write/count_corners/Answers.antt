use Rattle.std.proofs.Common.{◌+◌, length, ap, sym, ◌∙◌}
use Rattle.mesh_arrays.proofs.FaceLemmas.{count-next}
use Rattle.mesh_arrays.proofs.write.count_corners.Goals as goal

pub loop-f-preserved : goal.loop-f-preserved
loop-f-preserved c = ap (λ n. n + length c.face.result.now) c.loop-f.invariant ∙ sym (count-next c.args.mesh.now.faces c.loop-f.f c.face.result.now c.face.ensures)
