use Rattle.std.proofs.Common.{◌++◌, ◌∙◌, ap, map}
use Rattle.subdiv_model.specs.MeshFault.{FaceTooSmall, RepeatedVertex, small_faces, repeating_faces}
use Rattle.mesh_check.specs.View.{mesh_fault_of}
use Rattle.mesh_check.specs.Faults.{edge_faults}
use Rattle.mesh_check.proofs.listed.mesh_faults.Goals as goal

pub put_vertex_faults-requires-clause-found : goal.put_vertex_faults-requires-clause-found
put_vertex_faults-requires-clause-found c =
    let faces = c.args.raw.now.faces in
    c.in_ok-put_edge_faults.ensures
    ∙ ap (λ found. found ++ edge_faults faces) c.in_ok-put_repeating_faces.ensures
    ∙ ap (λ found. (found ++ map RepeatedVertex (repeating_faces faces)) ++ edge_faults faces) c.in_ok-put_small_faces.ensures
    ∙ ap (λ found. ((map mesh_fault_of found ++ map FaceTooSmall (small_faces faces)) ++ map RepeatedVertex (repeating_faces faces)) ++ edge_faults faces) c.new-faults.ensures.items
