-- The limits of a mesh and of its levels, and the faults of counts past them.
-- Source: Drillolive.
use Rattle.std.specs.Prelude.{ℕ, suc, ◌^◌, nat_lt, List, ◌++◌, length, map}
use Rattle.std.specs.List.{filter, flat_map, range_with_len, enumerate_from}
use Rattle.subdiv_model.specs.Polygons.{Polygon}
use Rattle.subdiv_model.specs.Edges.{edges_of_point}
use Rattle.subdiv_model.specs.ObjMesh.{ObjMesh}
use Rattle.subdiv_model.specs.Child.{faces_after}
use Rattle.subdiv_model.specs.Channel.{fault_where}
use Rattle.subdiv_model.specs.Fault.{Fault, TooLarge, Points, Faces, FaceSize, Valence, LevelFaces}

-- the most points of a mesh, and the most faces
abbrev pub mesh_limit : ℕ
mesh_limit = 2 ^ 20

-- the most corners of a face, and the most edges of a vertex
abbrev pub size_limit : ℕ
size_limit = 2 ^ 16

-- the most faces of a level after level 0
abbrev pub face_limit : ℕ
face_limit = 2 ^ 22

-- the number of edges of a vertex
abbrev pub valence_of : ObjMesh → ℕ → ℕ
valence_of mesh v = length (edges_of_point mesh.faces v)

-- the faces with too many corners, ascending
abbrev pub large_faces : ObjMesh → List (ℕ × Polygon)
large_faces mesh = filter (λ face. nat_lt size_limit (length face.1)) (enumerate_from 0 mesh.faces)

-- the vertices with too many edges, ascending
abbrev pub large_vertices : ObjMesh → List ℕ
large_vertices mesh = filter (λ v. nat_lt size_limit (valence_of mesh v)) (range_with_len 0 (length mesh.points))

-- the faults of the counts of a mesh, in order
abbrev pub count_faults : ObjMesh → List Fault
count_faults mesh =
    fault_where (nat_lt mesh_limit (length mesh.points)) (TooLarge (Points (length mesh.points)))
    ++ (fault_where (nat_lt mesh_limit (length mesh.faces)) (TooLarge (Faces (length mesh.faces)))
    ++ (map (λ face. TooLarge (FaceSize face.0 (length face.1))) (large_faces mesh)
    ++ map (λ v. TooLarge (Valence v (valence_of mesh v))) (large_vertices mesh)))

-- the faults of the levels from 1 to the depth that have too many faces
abbrev pub level_count_faults : List Polygon → ℕ → List Fault
level_count_faults polygons depth =
    flat_map (λ k. fault_where (nat_lt face_limit (faces_after polygons (suc k))) (TooLarge (LevelFaces (suc k) (faces_after polygons (suc k))))) (range_with_len 0 depth)
