-- All levels of an accepted mesh and of its cut mesh are manifolds.
use Rattle.std.proofs.Common.{◌≡◌, ℕ, ◌<◌, true, List, length, None, arith, sym, subst, ◌∙◌}
use Rattle.std.specs.List.{filter, count_by}
use Rattle.std.proofs.lemmas.List.{length-map}
use Rattle.std.proofs.lemmas.List.Sums.{length-filter}
use Rattle.subdiv_model.specs.Polygons.{is_over}
use Rattle.subdiv_model.specs.Manifold.{IsManifold}
use Rattle.subdiv_model.specs.ObjMesh.{ObjMesh}
use Rattle.subdiv_model.specs.ObjLine.{is_vertex_line}
use Rattle.subdiv_model.specs.ReadObj.{obj_lines, fault_at, faces_of, first_bad_line, first_late_fault, lines_fault, mesh_of_lines, point_over, position_common}
use Rattle.subdiv_model.specs.MeshFault.{first_mesh_fault}
use Rattle.subdiv_model.specs.Base.{base_level}
use Rattle.subdiv_model.specs.Cut.{cut_level}
use Rattle.far_model.specs.Command.{Command, Reads, Stored, Makes, Streams, Verify, Apply, Frames, Gen, IsInRange}
use Rattle.subdiv_model.specs.Generator.{generated_mesh}
use Rattle.far_model.specs.Answer.{IsAcceptedMesh, frames_lines}
use Rattle.far_model.specs.Stored.{mesh_part}
use Rattle.mesh_laws.proofs.Laws.{manifold-levels}
use Rattle.mesh_laws.proofs.FaultLemmas.{fault-decides}
use Rattle.mesh_laws.proofs.WalkLemmas.{manifold-decides}
use Rattle.obj_laws.proofs.FirstFaultLemmas.{each-good}
use Rattle.obj_laws.proofs.ObjGoodLemmas.{or-else-none}
use Rattle.obj_laws.proofs.ObjMeshLemmas.{vertices-good}
use Rattle.sheet_maker.proofs.SheetLaws.{generated-manifold, generated-over}
use Rattle.texture_laws.proofs.ChannelLemmas.{cut-over}
use Rattle.texture_laws.proofs.CutFanLemmas.{cut-manifold}
use Rattle.far_engine.specs.Runs.{HasManifolds}

-- the mesh has its corners at its points
levels-manifold : (mesh : ObjMesh) → is_over (length mesh.points) mesh.faces ≡ true → IsManifold (length mesh.points) mesh.faces → HasManifolds mesh
levels-manifold mesh over is = record {
  levels = λ n. (manifold-levels (base_level mesh) n over is).1;
  cut = λ mode n. (manifold-levels (cut_level mode mesh) n (cut-over mesh) (cut-manifold mesh is.simple is.sides_once)).1;
}

-- in lines without fault each corner of a face is a point
lines-over : (lines : List (List (List ℕ))) (least : ℕ) → lines_fault lines least ≡ None → is_over (length (mesh_of_lines lines least).points) (mesh_of_lines lines least).faces ≡ true
lines-over lines least good =
    let points : count_by is_vertex_line lines ≡ length (mesh_of_lines lines least).points =
    sym (length-map (filter is_vertex_line lines) (point_over (position_common least lines)) ∙ length-filter is_vertex_line lines) in
    subst (λ n. is_over n (faces_of lines) ≡ true) points
    (vertices-good lines (each-good (fault_at lines) (length lines) (or-else-none (first_bad_line lines) (first_late_fault least lines) good)))

lines-manifold : (lines : List (List (List ℕ))) (least : ℕ) → lines_fault lines least ≡ None
    → first_mesh_fault (length (mesh_of_lines lines least).points) (mesh_of_lines lines least).faces ≡ None → HasManifolds (mesh_of_lines lines least)
lines-manifold lines least good fine =
    let mesh = mesh_of_lines lines least in
    levels-manifold mesh (lines-over lines least good) ((manifold-decides (length mesh.points) mesh.faces).0 ((fault-decides (length mesh.points) mesh.faces).0 fine))

-- any command, with options in their ranges
pub accepted-manifolds : (command : Command) (bytes : List ℕ) (mesh : ObjMesh) → IsInRange command → IsAcceptedMesh command bytes mesh → HasManifolds mesh
accepted-manifolds (Reads command) bytes mesh within is =
    subst HasManifolds is.1
    (lines-manifold (obj_lines bytes) 0 is.0 (subst (λ m. first_mesh_fault (length m.points) m.faces ≡ None) (sym is.1) is.2))
accepted-manifolds (Stored (Verify depth)) bytes mesh within is =
    subst HasManifolds is.1
    (lines-manifold (mesh_part bytes) 0 is.0 (subst (λ m. first_mesh_fault (length m.points) m.faces ≡ None) (sym is.1) is.2))
accepted-manifolds (Stored Apply) bytes mesh within is = absurd is
accepted-manifolds (Makes (Gen options)) bytes mesh within is =
    let some : 0 < options.size = omega (arith, within.0) in
    subst HasManifolds is (levels-manifold (generated_mesh options.seed options.size) (generated-over options.seed options.size) (generated-manifold options.seed options.size some))
accepted-manifolds (Streams (Frames options)) bytes mesh within is =
    subst HasManifolds is.1
    (lines-manifold (frames_lines bytes) options.scale is.0 (subst (λ m. first_mesh_fault (length m.points) m.faces ≡ None) (sym is.1) is.2))
