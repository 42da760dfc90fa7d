-- The counts that are checked before a level is made, and the counts of the level.
use Rattle.std.specs.Prelude.{nat_lt, List, ◌++◌, length, map, Option, Some, None}
use Rattle.std.specs.List.{filter, range_with_len}
use Rattle.subdiv_model.specs.Edges.{edges_of_point}
use Rattle.subdiv_model.specs.Level.{Level}
use Rattle.subdiv_model.specs.Fault.{Fault, TooLarge}
use Rattle.subdiv_model.specs.Fault as run
use Rattle.subdiv_model.specs.Channel.{fault_where}
use Rattle.subdiv_model.specs.ObjMesh.{ObjMesh}
use Rattle.subdiv_model.specs.Limits.{mesh_limit, size_limit, large_faces}
use Rattle.level_topology.specs.declared.counted.Counted.{Counted}
use Rattle.level_topology.specs.CountedText.{counted_of}

-- the faults of points, of faces and of the corners of a face, in their order
abbrev pub size_faults : ObjMesh → List Fault
size_faults mesh =
    fault_where (nat_lt mesh_limit (length mesh.points)) (TooLarge (run.Points (length mesh.points)))
    ++ (fault_where (nat_lt mesh_limit (length mesh.faces)) (TooLarge (run.Faces (length mesh.faces)))
    ++ map (λ face. TooLarge (run.FaceSize face.0 (length face.1))) (large_faces mesh))

-- the faults of the vertices with too many edges, ascending
abbrev pub valence_faults : Level → List Fault
valence_faults level =
    map (λ v. TooLarge (run.Valence v (length (edges_of_point level.polygons v))))
    (filter (λ v. nat_lt size_limit (length (edges_of_point level.polygons v))) (range_with_len 0 level.point_count))

-- the fault of a count that is too great, if there is one
abbrev pub count_named : Option Counted → Option Fault
count_named None = None
count_named (Some counted) = Some (TooLarge (counted_of counted))
