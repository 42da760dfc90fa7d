-- The faces and edges at a point as a level keeps them: in fan order if the point is complete.
use Rattle.std.specs.Prelude.{ℕ, ◌≡◌, ◌-◌, ◌<◌, Bool, true, false, List, [], length, map, get_or}
use Rattle.std.specs.List.Sorted.{IsPermutation}
use Rattle.subdiv_model.specs.Polygons.{Polygon, has_corner, is_among, is_distinct, polygon_at}
use Rattle.subdiv_model.specs.Edges.{faces_of_point}
use Rattle.subdiv_model.specs.Manifold.{IsPath, IsSuccessor}
use Rattle.level_topology.specs.Topology.{IsFan, corner_of, end_of, edge_numbers_at}

-- The faces at a point in fan order, beginning with `start`.
pub record IsFanFrom (polygons : List Polygon) (v start : ℕ) (fan : List ℕ) : Type 0 where
  pub path : IsPath polygons v fan
  pub once : is_distinct fan ≡ true
  pub all : (f : ℕ) → is_among fan f ≡ has_corner v (polygon_at polygons f)
  pub some : 0 < length fan
  pub first : get_or fan 0 0 ≡ start

-- The last of a list of faces.
abbrev pub last_face : List ℕ → ℕ
last_face fan = get_or fan (length fan - 1) 0

-- The lists that a level keeps for a point: in fan order if it is complete, and ascending otherwise.
pub record IsRow (polygons : List Polygon) (v : ℕ) (complete : Bool) (faces at edges ends : List ℕ) : Type 0 where
  pub faces_are : IsPermutation (faces_of_point polygons v) faces
  pub edges_are : IsPermutation (edge_numbers_at polygons v) edges
  pub fan : complete ≡ true → IsFan polygons v faces edges
  pub plain_faces : complete ≡ false → faces ≡ faces_of_point polygons v
  pub plain_edges : complete ≡ false → edges ≡ edge_numbers_at polygons v
  pub corners_are : at ≡ map (corner_of polygons v) faces
  pub ends_are : ends ≡ map (end_of polygons v) edges

-- The faces at a point in fan order: a path whose first face has no predecessor, or a cycle whose last face precedes its first.
pub record IsTurned (polygons : List Polygon) (v : ℕ) (is_path : Bool) (fan : List ℕ) : Type 0 where
  pub start : ℕ
  pub is : IsFanFrom polygons v start fan
  pub no_predecessor : is_path ≡ true → (f : ℕ) → IsSuccessor polygons v f start → ⊥
  pub led : is_path ≡ false → IsSuccessor polygons v (last_face fan) start

-- The lists of the first `count` points.
pub record AreRows (polygons : List Polygon) (complete : List Bool) (count : ℕ) (faces at edges ends : List (List ℕ)) : Type 0 where
  pub face_count : length faces ≡ count
  pub at_count : length at ≡ count
  pub edge_count : length edges ≡ count
  pub end_count : length ends ≡ count
  pub rows : (v : ℕ) → v < count → IsRow polygons v (get_or complete v false) (get_or faces v []) (get_or at v []) (get_or edges v []) (get_or ends v [])
