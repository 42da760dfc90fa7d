use Rattle.std.proofs.Common.{map, sym, ◌∙◌}
use Rattle.subdiv_model.specs.MeshFault.{FaceTooSmall, RepeatedVertex, small_faces, repeating_faces}
use Rattle.mesh_check.proofs.EdgeFaultLemmas.{skip, pick-last, skip-last}
use Rattle.mesh_check.proofs.faults.corner_fault.Goals as goal

pub returns-in-Some-found : goal.returns-in-Some-found
returns-in-Some-found c =
    let faces = c.args.raw.now.faces in
    pick-last RepeatedVertex (repeating_faces faces) c.in-Some-found.f (sym c.in_ok-found.ensures ∙ c.in-Some-found.is)
    ∙ sym (skip FaceTooSmall (small_faces faces) (map RepeatedVertex (repeating_faces faces)) (sym c.small_face.ensures ∙ c.in_default.is))

pub returns-in-None : goal.returns-in-None
returns-in-None c =
    let faces = c.args.raw.now.faces in
    skip-last RepeatedVertex (repeating_faces faces) (sym c.in_ok-found.ensures ∙ c.in-None.is)
    ∙ sym (skip FaceTooSmall (small_faces faces) (map RepeatedVertex (repeating_faces faces)) (sym c.small_face.ensures ∙ c.in_default.is))
