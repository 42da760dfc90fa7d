use Rattle.std.proofs.Common.{take, Ok}
use Rattle.std.specs.List.{flat_map}
use Rattle.subdiv_model.specs.SparseText.{sparse_face_line}
use Rattle.obj_out.specs.Puts.{Puts}
use Rattle.far_text.proofs.sparse.put_faces.Given as goal

-- the lines so far
abbrev pub invariant-loop-f : goal.invariant-loop-f
invariant-loop-f g l = Puts g.K.Sink l.fn.out l.out (flat_map sparse_face_line (take l.f l.level.faces)) (Ok tt)
