use Rattle.std.proofs.Common.{◌+◌, length, arith, ◌∙◌}
use Rattle.flat_arrays.proofs.PartLemmas.{rest-later}
use Rattle.mesh_arrays.proofs.FaceLemmas.{sizes-next, size-fits}
use Rattle.mesh_arrays.proofs.put_faces.put_sizes.Goals as goal

pub overflow_cast-face : goal.overflow_cast-face
overflow_cast-face c = omega (arith, size-fits c.args.mesh.now.faces c.loop-f.f c.face.result.now c.face.ensures c.facts.ensures.few_corners)

pub loop-f-preserved : goal.loop-f-preserved
loop-f-preserved c =
    let next = sizes-next c.args.mesh.now.faces c.loop-f.f c.face.result.now c.face.ensures in
    let before = c.loop-f.invariant.written in
    let written = c.put_item.ensures.written in record {
      written = cc;
      rest = rest-later (c.loop-f.f + 1) (length c.args.mesh.now.faces) c.put_item.new.out c.loop-f.out c.args.out.now (omega (arith, c.loop-f-test.true, c.faces-f-end.ensures))
          c.put_item.ensures.rest c.loop-f.invariant.rest;
      len = c.put_item.ensures.len ∙ c.loop-f.invariant.len;
    }
