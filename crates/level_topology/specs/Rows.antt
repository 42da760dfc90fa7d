-- The tables of a level as whole lists: how calls extend them, and when they are those of a level.
use Rattle.std.specs.Prelude.{ℕ, ◌≡◌, ◌<◌, Bool, List, [], ◌∷◌, ◌++◌, length, map, get_or}
use Rattle.subdiv_model.specs.Polygons.{Polygon}
use Rattle.subdiv_model.specs.Edges.{edges_of, faces_of_edge}
use Rattle.subdiv_model.specs.Sharpness.{Sharpness, Method}
use Rattle.level_topology.specs.Topology.{Topology, IsTopology, face_edges_of, corner_of, end_of}

-- The numbers of points, edges, faces and corners of a level, and the numbers of faces and edges in the lists of all its points.
pub record Counts : Type 0 where
  pub points : ℕ
  pub edges : ℕ
  pub faces : ℕ
  pub corners : ℕ
  pub face_places : ℕ
  pub edge_places : ℕ

-- The lists put so far, in the order of the numbers of faces, edges and points.
pub record Rows : Type 0 where
  pub counts : Counts
  pub method : Method
  -- for each face its corners, its edges, and whether it is a hole
  pub face_vertices : List Polygon
  pub face_edges : List (List ℕ)
  pub holes : List Bool
  -- for each edge its ends, its faces and its sharpness
  pub edge_vertices : List (ℕ × ℕ)
  pub edge_faces : List (List ℕ)
  pub edge_sharpness : List Sharpness
  -- for each point: faces, its corner of each, edges, its end of each, sharpness, and whether its lists are in fan order
  pub vertex_faces : List (List ℕ)
  pub vertex_faces_at : List (List ℕ)
  pub vertex_edges : List (List ℕ)
  pub vertex_edges_at : List (List ℕ)
  pub vertex_sharpness : List Sharpness
  pub complete : List Bool

-- The level with these lists.
abbrev pub topology_of : Rows → Topology
topology_of rows = record {
  level = record {
    point_count = length rows.complete;
    polygons = rows.face_vertices;
    holes = rows.holes;
    edge_sharpness = rows.edge_sharpness;
    vertex_sharpness = rows.vertex_sharpness;
    method = rows.method;
  };
  faces_at = rows.vertex_faces;
  edges_at = rows.vertex_edges;
  complete = rows.complete;
}

-- The lists are those of a level: they form a topology, and the derived lists agree with the definitions.
pub record AreOfLevel (rows : Rows) : Type 0 where
  pub topology : IsTopology (topology_of rows)
  pub face_edges : rows.face_edges ≡ map (face_edges_of rows.face_vertices) rows.face_vertices
  pub edge_vertices : rows.edge_vertices ≡ edges_of rows.face_vertices
  pub edge_faces : rows.edge_faces ≡ map (faces_of_edge rows.face_vertices) (edges_of rows.face_vertices)
  pub faces_listed : length rows.vertex_faces_at ≡ length rows.complete
  pub edges_listed : length rows.vertex_edges_at ≡ length rows.complete
  pub corners : (v : ℕ) → v < length rows.complete → get_or rows.vertex_faces_at v [] ≡ map (corner_of rows.face_vertices v) (get_or rows.vertex_faces v [])
  pub ends : (v : ℕ) → v < length rows.complete → get_or rows.vertex_edges_at v [] ≡ map (end_of rows.face_vertices v) (get_or rows.vertex_edges v [])

-- The lists before the first call.
abbrev pub no_rows : Counts → Method → Rows
no_rows counts method = record {
  counts = counts;
  method = method;
  face_vertices = [];
  face_edges = [];
  holes = [];
  edge_vertices = [];
  edge_faces = [];
  edge_sharpness = [];
  vertex_faces = [];
  vertex_faces_at = [];
  vertex_edges = [];
  vertex_edges_at = [];
  vertex_sharpness = [];
  complete = [];
}

-- The lists after one more face.
abbrev pub with_face : Polygon → List ℕ → Bool → Rows → Rows
with_face corners edges hole rows = record rows {
  face_vertices = rows.face_vertices ++ corners ∷ [];
  face_edges = rows.face_edges ++ edges ∷ [];
  holes = rows.holes ++ hole ∷ [];
}

-- The lists after one more edge.
abbrev pub with_edge : ℕ × ℕ → List ℕ → Sharpness → Rows → Rows
with_edge ends faces sharpness rows = record rows {
  edge_vertices = rows.edge_vertices ++ ends ∷ [];
  edge_faces = rows.edge_faces ++ faces ∷ [];
  edge_sharpness = rows.edge_sharpness ++ sharpness ∷ [];
}

-- The lists after one more point.
abbrev pub with_vertex : List ℕ → List ℕ → List ℕ → List ℕ → Sharpness → Bool → Rows → Rows
with_vertex faces faces_at edges edges_at sharpness complete rows = record rows {
  vertex_faces = rows.vertex_faces ++ faces ∷ [];
  vertex_faces_at = rows.vertex_faces_at ++ faces_at ∷ [];
  vertex_edges = rows.vertex_edges ++ edges ∷ [];
  vertex_edges_at = rows.vertex_edges_at ++ edges_at ∷ [];
  vertex_sharpness = rows.vertex_sharpness ++ sharpness ∷ [];
  complete = rows.complete ++ complete ∷ [];
}

-- All faces, edges and points that the counts announce have been put.
pub record AreAllPut (rows : Rows) : Type 0 where
  pub faces : length rows.face_vertices ≡ rows.counts.faces
  pub edges : length rows.edge_vertices ≡ rows.counts.edges
  pub points : length rows.complete ≡ rows.counts.points
