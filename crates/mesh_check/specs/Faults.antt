-- The faults of a mesh by their place: the corners of faces, their sides, and the faces at vertices.
use Rattle.std.specs.Prelude.{ℕ, List, ◌++◌, map, Option, Some, None}
use Rattle.subdiv_model.specs.Polygons.{Polygon}
use Rattle.subdiv_model.specs.MeshFault.{MeshFault, FaceTooSmall, RepeatedVertex, NonManifoldEdge, WindingClash, SplitVertex, small_faces, repeating_faces, crowded_edges, clashing_edges}

abbrev pub corner_faults : List Polygon → List MeshFault
corner_faults polygons = map FaceTooSmall (small_faces polygons) ++ map RepeatedVertex (repeating_faces polygons)

abbrev pub edge_faults : List Polygon → List MeshFault
edge_faults polygons = map (λ edge. NonManifoldEdge edge.0 edge.1) (crowded_edges polygons) ++ map (λ edge. WindingClash edge.0 edge.1) (clashing_edges polygons)

-- the fault of the first crowded edge, or else of the first clashing one
abbrev pub edge_named : Option (ℕ × ℕ) → Option (ℕ × ℕ) → Option MeshFault
edge_named (Some edge) clashing = Some (NonManifoldEdge edge.0 edge.1)
edge_named None (Some edge) = Some (WindingClash edge.0 edge.1)
edge_named None None = None

-- the fault of the first vertex whose faces are more than one fan
abbrev pub vertex_named : Option ℕ → Option MeshFault
vertex_named (Some v) = Some (SplitVertex v)
vertex_named None = None
