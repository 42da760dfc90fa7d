use Rattle.std.proofs.Common.{◌≡◌, nat_lt, length, drop}
use Rattle.subdiv_model.specs.Lists.{first_of, places_from}
use Rattle.subdiv_model.specs.MeshFault.{small_faces}
use Rattle.mesh_check.proofs.corners.small_face.Given as goal

-- the faces from here on decide
abbrev pub invariant-loop-f : goal.invariant-loop-f
invariant-loop-f l = first_of (places_from l.f (λ polygon. nat_lt (length polygon) 3) (drop l.f l.raw.faces)) ≡ first_of (small_faces l.raw.faces)
