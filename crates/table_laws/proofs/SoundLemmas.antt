-- The mesh of lines without fault is a manifold over its points, and its tags are well formed.
use Rattle.std.proofs.Common.{◌≡◌, ℕ, true, List, length, sym, subst, ◌∙◌, None}
use Rattle.std.specs.List.{count_by, filter}
use Rattle.std.proofs.lemmas.List.{length-map}
use Rattle.std.proofs.lemmas.List.Sums.{length-filter}
use Rattle.subdiv_model.specs.MeshFault.{first_mesh_fault}
use Rattle.subdiv_model.specs.ObjLine.{is_vertex_line}
use Rattle.subdiv_model.specs.Polygons.{is_over}
use Rattle.subdiv_model.specs.ReadObj.{fault_at, first_bad_line, first_late_fault, lines_fault, faces_of, position_common, point_over, mesh_of_lines}
use Rattle.sharpness_laws.proofs.TagLemmas.{creases-proper, corners-proper}
use Rattle.obj_laws.proofs.FirstFaultLemmas.{each-good}
use Rattle.obj_laws.proofs.ObjGoodLemmas.{or-else-none}
use Rattle.obj_laws.proofs.ObjMeshLemmas.{vertices-good}
use Rattle.mesh_laws.proofs.FaultLemmas.{fault-decides}
use Rattle.mesh_laws.proofs.WalkLemmas.{manifold-decides}
use Rattle.level_laws.specs.Tags.{HasProperTags}
use Rattle.mask_laws.specs.Laws.{IsManifoldMesh}

pub lines-proper : (lines : List (List (List ℕ))) (least : ℕ) → HasProperTags (mesh_of_lines lines least)
lines-proper lines least = record { creases = creases-proper lines; corner_tags = corners-proper lines }

-- the corners of the faces are points
lines-over : (lines : List (List (List ℕ))) (least : ℕ) → lines_fault lines least ≡ None → is_over (length (mesh_of_lines lines least).points) (faces_of lines) ≡ true
lines-over lines least none =
    let good = each-good (fault_at lines) (length lines) (or-else-none (first_bad_line lines) (first_late_fault least lines) none) in
    let count : count_by is_vertex_line lines ≡ length (mesh_of_lines lines least).points =
    sym (length-map (filter is_vertex_line lines) (point_over (position_common least lines)) ∙ length-filter is_vertex_line lines) in
    subst (λ n. is_over n (faces_of lines) ≡ true) count (vertices-good lines good)

pub lines-manifold : (lines : List (List (List ℕ))) (least : ℕ) → lines_fault lines least ≡ None
    → first_mesh_fault (length (mesh_of_lines lines least).points) (mesh_of_lines lines least).faces ≡ None → IsManifoldMesh (mesh_of_lines lines least)
lines-manifold lines least none checked =
    let mesh = mesh_of_lines lines least in
    record {
      manifold = (manifold-decides (length mesh.points) mesh.faces).0 ((fault-decides (length mesh.points) mesh.faces).0 checked);
      over_points = lines-over lines least none;
    }
