use Rattle.std.proofs.Common.{◌≤◌, ◌<◌, length, take, Ok}
use Rattle.std.specs.List.{flat_map}
use Rattle.subdiv_model.specs.SparseTexture.{textured_sparse_line}
use Rattle.sparse_level.specs.Faces.{face_at}
use Rattle.obj_out.specs.Puts.{Puts}
use Rattle.far_text.specs.TexturedLines.{place_in}
use Rattle.far_text.proofs.textured_sparse.put_faces.Given as goal

-- the lines so far, and the place of the next face's number is not passed
abbrev pub invariant-loop-f : goal.invariant-loop-f
invariant-loop-f g l =
    Puts g.K.Sink l.fn.out l.out (flat_map (textured_sparse_line l.texture) (take l.f l.level.faces)) (Ok tt)
    × (l.f < length l.level.faces → l.place ≤ place_in l.texture (face_at l.level l.f).number)
