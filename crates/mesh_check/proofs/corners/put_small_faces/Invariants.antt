use Rattle.std.proofs.Common.{◌≡◌, ◌++◌, nat_lt, length, map, drop}
use Rattle.subdiv_model.specs.Lists.{places_from}
use Rattle.subdiv_model.specs.MeshFault.{FaceTooSmall, small_faces}
use Rattle.mesh_check.specs.View.{mesh_fault_of}
use Rattle.mesh_check.proofs.corners.put_small_faces.Given as goal

-- the faults so far and those of the rest are all
abbrev pub invariant-loop-f : goal.invariant-loop-f
invariant-loop-f l =
    map mesh_fault_of l.faults.items ++ map FaceTooSmall (places_from l.f (λ polygon. nat_lt (length polygon) 3) (drop l.f l.raw.faces))
    ≡ map mesh_fault_of l.fn.faults.items ++ map FaceTooSmall (small_faces l.raw.faces)
