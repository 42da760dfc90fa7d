-- The subjects of the laws of a level: an edge of a face, and a point with its faces and edges.
use Rattle.std.specs.Prelude.{ℕ, ◌<◌, List, [], get_or}
use Rattle.subdiv_model.specs.Polygons.{Polygon, polygon_at}
use Rattle.level_topology.specs.Topology.{Topology, IsTopology, face_edges_of}

-- The number of the edge of a face from corner c to the next.
abbrev pub face_edge_at : List Polygon → ℕ → ℕ → ℕ
face_edge_at polygons f c = get_or (face_edges_of polygons (polygon_at polygons f)) c 0

-- A point of a level.
pub record LevelPoint : Type 0 where
  pub topology : Topology
  pub number : ℕ
  pub is_topology : IsTopology topology
  pub exists : number < topology.level.point_count

-- The faces that the level lists at the point.
abbrev pub listed_faces : LevelPoint → List ℕ
listed_faces v = get_or v.topology.faces_at v.number []

-- The edges that the level lists at the point.
abbrev pub listed_edges : LevelPoint → List ℕ
listed_edges v = get_or v.topology.edges_at v.number []
