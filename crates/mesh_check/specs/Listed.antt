-- All faults in the list of a mesh. Vertices are checked only where faces and edges have no fault.
use Rattle.std.specs.Prelude.{ℕ, Bool, true, false, List, [], ◌∷◌, ◌++◌, map}
use Rattle.subdiv_model.specs.Polygons.{Polygon}
use Rattle.subdiv_model.specs.MeshFault.{MeshFault, NonManifoldEdge, WindingClash, SplitVertex, split_vertices}
use Rattle.mesh_check.specs.Faults.{corner_faults, edge_faults}

-- the first list, or the second if the first is empty
abbrev pub or_else : {X : Type 0} → List X → List X → List X
or_else [] ys = ys
or_else (x ∷ xs) ys = x ∷ xs

-- the faults of faces and edges, kind by kind; if there are none, the vertices whose faces are not one fan
abbrev pub listed_faults : ℕ → List Polygon → List MeshFault
listed_faults points polygons = or_else (corner_faults polygons ++ edge_faults polygons) (map SplitVertex (split_vertices points polygons))

-- the fault of a crowded edge, or that of a clashing edge
abbrev pub fault_of_edge : Bool → ℕ × ℕ → MeshFault
fault_of_edge true edge = NonManifoldEdge edge.0 edge.1
fault_of_edge false edge = WindingClash edge.0 edge.1
