-- A child as contracts see it: a level, and the origins of its points and faces in a parent level. It may contain the children of only a
-- part of the parent.
use Rattle.std.specs.Prelude.{ℕ, ◌≡◌, ◌≢◌, ◌<◌, Bool, false, ◌&&◌, nat_eq, List, [], ◌∷◌, length, map, get_or, Option}
use Rattle.std.specs.List.{All, AllPairs, position}
use Rattle.subdiv_model.specs.Polygons.{Polygon, polygon_at}
use Rattle.subdiv_model.specs.Edges.{edges_of}
use Rattle.level_topology.specs.Topology.{Topology, IsTopology, face_edges_of, corner_before}

-- The part of the parent that a point comes from, with its number there.
pub data PointOrigin : Type 0 where
  FromVertex : ℕ → PointOrigin
  FromFace : ℕ → PointOrigin
  FromEdge : ℕ → PointOrigin

-- Whether two origins are the same part of the parent.
abbrev pub same_origin : PointOrigin → PointOrigin → Bool
same_origin (FromVertex v) (FromVertex w) = nat_eq v w
same_origin (FromFace f) (FromFace g) = nat_eq f g
same_origin (FromEdge d) (FromEdge e) = nat_eq d e
same_origin (FromVertex v) (FromFace g) = false
same_origin (FromVertex v) (FromEdge e) = false
same_origin (FromFace f) (FromVertex w) = false
same_origin (FromFace f) (FromEdge e) = false
same_origin (FromEdge d) (FromVertex w) = false
same_origin (FromEdge d) (FromFace g) = false

-- The parent has this part, given its numbers of points, faces and edges.
abbrev pub IsOriginWithin : ℕ → ℕ → ℕ → PointOrigin → Type 0
IsOriginWithin points faces edges (FromVertex v) = v < points
IsOriginWithin points faces edges (FromFace f) = f < faces
IsOriginWithin points faces edges (FromEdge e) = e < edges

-- Whether two places are the same face of the parent and the same corner of it.
abbrev pub same_place : ℕ × ℕ → ℕ × ℕ → Bool
same_place a b = nat_eq a.0 b.0 && nat_eq a.1 b.1

-- The parent has this corner.
abbrev pub IsPlaceWithin : List Polygon → ℕ × ℕ → Type 0
IsPlaceWithin polygons place = place.1 < length (polygon_at polygons place.0)

-- The origins of the corners of the child face at a place. They are the corner, the edge after it, the face, and the edge before it.
abbrev pub corner_origins : List Polygon → ℕ × ℕ → List PointOrigin
corner_origins polygons place =
    FromVertex (get_or (polygon_at polygons place.0) place.1 0)
    ∷ FromEdge (get_or (face_edges_of polygons (polygon_at polygons place.0)) place.1 0)
    ∷ FromFace place.0
    ∷ FromEdge (get_or (face_edges_of polygons (polygon_at polygons place.0)) (corner_before (length (polygon_at polygons place.0)) place.1) 0)
    ∷ []

-- The origins of the points of a polygon.
abbrev pub origins_along : List PointOrigin → Polygon → List PointOrigin
origins_along origins polygon = map (λ p. get_or origins p (FromVertex 0)) polygon

-- The level is a child of the parent. Each point has an origin of its own, and each face has a place of its own. The corners of each face
-- have the right origins.
pub record IsChild (parent level : Topology) (origins : List PointOrigin) (places : List (ℕ × ℕ)) : Type 0 where
  pub each_point : length origins ≡ level.level.point_count
  pub each_face : length places ≡ length level.level.polygons
  pub origins_within : All (IsOriginWithin parent.level.point_count (length parent.level.polygons) (length (edges_of parent.level.polygons))) origins
  pub places_within : All (IsPlaceWithin parent.level.polygons) places
  pub origins_once : AllPairs (λ a b. a ≢ b) origins
  pub places_once : AllPairs (λ a b. a ≢ b) places
  pub corners : (f : ℕ) → f < length places → origins_along origins (polygon_at level.level.polygons f) ≡ corner_origins parent.level.polygons (get_or places f (0, 0))

-- The level, the counts of its parent, the origin of each point, and the place of each face.
pub record ChildTopology : Type 0 where
  pub topology : Topology
  pub parent_points : ℕ
  -- how many corners each face of the parent has
  pub parent_sizes : List ℕ
  pub parent_edges : ℕ
  pub origins : List PointOrigin
  pub places : List (ℕ × ℕ)

-- The child that a level, its origins and its places give.
abbrev pub child_of : Topology → Topology → List PointOrigin → List (ℕ × ℕ) → ChildTopology
child_of parent level origins places = record {
  topology = level;
  parent_points = parent.level.point_count;
  parent_sizes = map length parent.level.polygons;
  parent_edges = length (edges_of parent.level.polygons);
  origins = origins;
  places = places;
}

-- The child has a parent.
pub record HasParent (child : ChildTopology) : Type 0 where
  pub parent : Topology
  pub parent_is : IsTopology parent
  pub level_is : IsTopology child.topology
  pub of : child ≡ child_of parent child.topology child.origins child.places
  pub is : IsChild parent child.topology child.origins child.places

-- The point that comes from a part of the parent.
abbrev pub point_from : ChildTopology → PointOrigin → Option ℕ
point_from child origin = position (same_origin origin) child.origins

-- The face that comes from a place.
abbrev pub face_from : ChildTopology → ℕ × ℕ → Option ℕ
face_from child place = position (same_place place) child.places
