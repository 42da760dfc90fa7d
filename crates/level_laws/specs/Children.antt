-- The corners, edges and faces of a level and what they become in the next level, for the laws of levels.
use Rattle.std.specs.Prelude.{◌≡◌, ℕ, ◌<◌, List, ◌∷◌, length, get_or, IsTrue}
use Rattle.std.specs.List.{list_any}
use Rattle.subdiv_model.specs.Lists.{last_of}
use Rattle.subdiv_model.specs.Polygons.{Polygon, sides_of, same_edge, polygon_at, is_over}
use Rattle.subdiv_model.specs.Edges.{edges_of, has_end}
use Rattle.subdiv_model.specs.Sharpness.{Smooth}
use Rattle.subdiv_model.specs.Level.{Level, edge_sharpness_of}
use Rattle.subdiv_model.specs.Child.{child_face, child_level, edge_point, face_point}
use Rattle.subdiv_model.specs.Sparse.{child_number}

-- a corner of a face, by the number of the face and its place in the face
pub record Corner (polygons : List Polygon) : Type 0 where
  pub face : ℕ
  pub place : ℕ
  pub is_face : face < length polygons
  pub is_corner : place < length (polygon_at polygons face)

-- the number of the child face of a corner, which comes after the children of all earlier faces
abbrev pub child_place : {polygons : List Polygon} → Corner polygons → ℕ
child_place {polygons} corner = child_number polygons (corner.face, corner.place)

-- the sides of the face of a corner
abbrev pub sides_at : {polygons : List Polygon} → Corner polygons → List (ℕ × ℕ)
sides_at {polygons} corner = sides_of (polygon_at polygons corner.face)

-- the side of the face that ends at the corner
abbrev pub side_to : {polygons : List Polygon} → Corner polygons → ℕ × ℕ
side_to corner = get_or (last_of (0, 0) (sides_at corner) ∷ sides_at corner) corner.place (0, 0)

-- the side of the face that starts at the corner
abbrev pub side_from : {polygons : List Polygon} → Corner polygons → ℕ × ℕ
side_from corner = get_or (sides_at corner) corner.place (0, 0)

-- the child face of a corner
abbrev pub child_face_of : {polygons : List Polygon} → ℕ → Corner polygons → Polygon
child_face_of {polygons} points corner = child_face points polygons corner.face (side_to corner) (side_from corner)

-- the end v of an edge of the level, whose corners are points
pub record EdgeEnd (level : Level) : Type 0 where
  pub edge : ℕ × ℕ
  pub v : ℕ
  pub over : IsTrue (is_over level.point_count level.polygons)
  pub is_edge : IsTrue (list_any (same_edge edge) (edges_of level.polygons))
  pub is_end : IsTrue (has_end v edge)

-- the number is one of a face of the level, whose corners are points
pub record IsFaceOverPoints (level : Level) (face : ℕ) : Type 0 where
  pub over : IsTrue (is_over level.point_count level.polygons)
  pub is_face : face < length level.polygons

-- the new point of an edge of the level
abbrev pub edge_point_of : Level → ℕ × ℕ → ℕ
edge_point_of level edge = edge_point level.point_count level.polygons edge

-- the new point of a face of the level
abbrev pub face_point_of : Level → ℕ → ℕ
face_point_of level face = face_point level.point_count face

-- the edge of the next level is smooth
abbrev pub IsSmoothNext : Level → ℕ × ℕ → Type 0
IsSmoothNext level edge = edge_sharpness_of (child_level level) edge ≡ Smooth
