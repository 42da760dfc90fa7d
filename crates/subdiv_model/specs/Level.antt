-- A level: points, polygons, holes and sharpness.
-- Source: Drillolive.
use Rattle.std.specs.Prelude.{ℕ, Bool, false, ◌&&◌, nat_eq, List, map, get_or, replicate, length}
use Rattle.std.specs.List.{list_all}
use Rattle.subdiv_model.specs.Polygons.{Polygon, is_over}
use Rattle.subdiv_model.specs.Edges.{edges_of, edge_number, faces_of_point, edges_of_point}
use Rattle.subdiv_model.specs.Sharpness.{Sharpness, Smooth, Method, Normal, is_proper_sharpness}

-- a level: its points, polygons, holes, sharpness and method
pub record Level : Type 0 where
  pub point_count : ℕ
  pub polygons : List Polygon
  -- a mark for each polygon
  pub holes : List Bool
  -- a sharpness for each edge, in the order of the edges
  pub edge_sharpness : List Sharpness
  -- a sharpness for each point
  pub vertex_sharpness : List Sharpness
  pub method : Method

-- the sharpness of an edge, named in either direction; a pair that is no edge is smooth
abbrev pub edge_sharpness_of : Level → ℕ × ℕ → Sharpness
edge_sharpness_of level edge = get_or level.edge_sharpness (edge_number level.polygons edge) Smooth

-- the sharpness of a point; a number that is no point is smooth
abbrev pub vertex_sharpness_of : Level → ℕ → Sharpness
vertex_sharpness_of level v = get_or level.vertex_sharpness v Smooth

-- the face is a hole
abbrev pub is_hole : Level → ℕ → Bool
is_hole level face = get_or level.holes face false

-- the edges at a point, by first appearance
abbrev pub edges_at : Level → ℕ → List (ℕ × ℕ)
edges_at level v = edges_of_point level.polygons v

-- the numbers of the faces at a point, ascending
abbrev pub faces_at : Level → ℕ → List ℕ
faces_at level v = faces_of_point level.polygons v

-- the sharpness of the edges at a point, in their order
abbrev pub ring_at : Level → ℕ → List Sharpness
ring_at level v = map (edge_sharpness_of level) (edges_at level v)

-- corners are points, each face has a mark, each edge and each point has a sharpness, and each sharpness is well formed
abbrev pub is_well_formed : Level → Bool
is_well_formed level =
    is_over level.point_count level.polygons
    && nat_eq (length level.holes) (length level.polygons)
    && nat_eq (length level.edge_sharpness) (length (edges_of level.polygons))
    && nat_eq (length level.vertex_sharpness) level.point_count
    && list_all is_proper_sharpness level.edge_sharpness
    && list_all is_proper_sharpness level.vertex_sharpness

-- a level without holes and sharpness, under the method `normal`
abbrev pub plain_level : ℕ → List Polygon → Level
plain_level points polygons = record {
  point_count = points;
  polygons = polygons;
  holes = replicate (length polygons) false;
  edge_sharpness = replicate (length (edges_of polygons)) Smooth;
  vertex_sharpness = replicate points Smooth;
  method = Normal;
}
