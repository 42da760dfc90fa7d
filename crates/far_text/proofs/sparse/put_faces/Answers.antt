use Rattle.std.proofs.Common.{arith}
use Rattle.subdiv_model.specs.SparseText.{sparse_face_line}
use Rattle.obj_out.proofs.PutsLemmas.{puts-next, puts-stop, puts-same}
use Rattle.far_text.proofs.SparseLemmas.{no_face, all-faces}
use Rattle.far_text.proofs.sparse.put_faces.Goals as goal

pub returns-in_err-put_face : goal.returns-in_err-put_face
returns-in_err-put_face g c =
    puts-stop sparse_face_line c.args.level.now.faces c.loop-f.f no_face (omega (arith, c.loop-f-test.true, c.len-f-end.ensures)) c.from_residual.ensures.0 c.loop-f.invariant
    c.in_err-put_face.ensures

pub loop-f-preserved : goal.loop-f-preserved
loop-f-preserved g c =
    puts-next sparse_face_line c.args.level.now.faces c.loop-f.f no_face (omega (arith, c.loop-f-test.true, c.len-f-end.ensures)) c.loop-f.invariant
    c.in_ok-put_face.ensures

pub returns : goal.returns
returns g c =
    puts-same (all-faces c.args.level.now.faces c.loop-f.f (omega (arith, c.loop-f-test.false, c.len-f-end.ensures))) c.loop-f.invariant
