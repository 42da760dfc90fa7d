-- The tables of a square and of one of its quarters.
use Rattle.std.specs.Prelude.{ℕ, ◌≡◌, ◌⊎◌, true, false, List, [], ◌∷◌, replicate}
use Rattle.subdiv_model.specs.Sharpness.{Smooth, Infinite, Normal}
use Rattle.level_topology.specs.Topology.{Topology}
use Rattle.level_topology.specs.Rows.{Rows, topology_of}
use Rattle.level_topology.specs.Child.{PointOrigin, FromVertex, FromFace, FromEdge, ChildTopology, child_of}

-- one face, four edges, and four complete points; point 3 is infinitely sharp, and so are the edges
abbrev pub square_rows : Rows
square_rows = record {
  counts = record { points = 4; edges = 4; faces = 1; corners = 4; face_places = 4; edge_places = 8 };
  method = Normal;
  face_vertices = (0 ∷ 1 ∷ 2 ∷ 3 ∷ []) ∷ [];
  face_edges = (0 ∷ 1 ∷ 2 ∷ 3 ∷ []) ∷ [];
  holes = false ∷ [];
  edge_vertices = (0, 1) ∷ (1, 2) ∷ (2, 3) ∷ (3, 0) ∷ [];
  edge_faces = (0 ∷ []) ∷ (0 ∷ []) ∷ (0 ∷ []) ∷ (0 ∷ []) ∷ [];
  edge_sharpness = Infinite ∷ Infinite ∷ Infinite ∷ Infinite ∷ [];
  vertex_faces = (0 ∷ []) ∷ (0 ∷ []) ∷ (0 ∷ []) ∷ (0 ∷ []) ∷ [];
  vertex_faces_at = (0 ∷ []) ∷ (1 ∷ []) ∷ (2 ∷ []) ∷ (3 ∷ []) ∷ [];
  vertex_edges = (3 ∷ 0 ∷ []) ∷ (0 ∷ 1 ∷ []) ∷ (1 ∷ 2 ∷ []) ∷ (2 ∷ 3 ∷ []) ∷ [];
  vertex_edges_at = (1 ∷ 0 ∷ []) ∷ (1 ∷ 0 ∷ []) ∷ (1 ∷ 0 ∷ []) ∷ (1 ∷ 0 ∷ []) ∷ [];
  vertex_sharpness = Smooth ∷ Smooth ∷ Smooth ∷ Infinite ∷ [];
  complete = true ∷ true ∷ true ∷ true ∷ [];
}

-- only the child face of corner 1, over four points, none of them complete
abbrev pub quarter_rows : Rows
quarter_rows = record {
  counts = record { points = 4; edges = 4; faces = 1; corners = 4; face_places = 4; edge_places = 8 };
  method = Normal;
  face_vertices = (0 ∷ 3 ∷ 1 ∷ 2 ∷ []) ∷ [];
  face_edges = (0 ∷ 1 ∷ 2 ∷ 3 ∷ []) ∷ [];
  holes = false ∷ [];
  edge_vertices = (0, 3) ∷ (3, 1) ∷ (1, 2) ∷ (2, 0) ∷ [];
  edge_faces = (0 ∷ []) ∷ (0 ∷ []) ∷ (0 ∷ []) ∷ (0 ∷ []) ∷ [];
  edge_sharpness = Infinite ∷ Smooth ∷ Smooth ∷ Infinite ∷ [];
  vertex_faces = (0 ∷ []) ∷ (0 ∷ []) ∷ (0 ∷ []) ∷ (0 ∷ []) ∷ [];
  vertex_faces_at = (0 ∷ []) ∷ (2 ∷ []) ∷ (3 ∷ []) ∷ (1 ∷ []) ∷ [];
  vertex_edges = (0 ∷ 3 ∷ []) ∷ (1 ∷ 2 ∷ []) ∷ (2 ∷ 3 ∷ []) ∷ (0 ∷ 1 ∷ []) ∷ [];
  vertex_edges_at = (0 ∷ 1 ∷ []) ∷ (1 ∷ 0 ∷ []) ∷ (1 ∷ 0 ∷ []) ∷ (1 ∷ 0 ∷ []) ∷ [];
  vertex_sharpness = Smooth ∷ Smooth ∷ Smooth ∷ Smooth ∷ [];
  complete = replicate 4 false;
}

-- the points of the vertex 1, of the face, and of the edges before and after
abbrev pub quarter_origins : List PointOrigin
quarter_origins = FromVertex 1 ∷ FromFace 0 ∷ FromEdge 0 ∷ FromEdge 1 ∷ []

abbrev pub quarter_places : List (ℕ × ℕ)
quarter_places = (0, 1) ∷ []

-- the levels of these tables; proofs unfold them where they say so
unfoldable pub square : Topology
square = topology_of square_rows

unfoldable pub quarter : Topology
quarter = topology_of quarter_rows

-- this quarter as a child of the square
abbrev pub quarter_child : ChildTopology
quarter_child = child_of square quarter quarter_origins quarter_places

-- the square, or its quarter
abbrev pub IsSquareOrQuarter : Topology → Type 0
IsSquareOrQuarter level = (level ≡ square) ⊎ (level ≡ quarter)

-- the number of parts of a child that is this quarter, and of the square
pub record IsQuarter (child : ChildTopology) : Type 0 where
  pub vertices : child.parent_points ≡ 4
  pub faces : child.parent_sizes ≡ 4 ∷ []
  pub edges : child.parent_edges ≡ 4
  pub points : child.topology.level.point_count ≡ 4
