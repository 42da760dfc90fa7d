-- The subjects of the laws of a child: a child with its parent, and the origins of its points and faces.
use Rattle.std.specs.Prelude.{ℕ, List, length, map, get_or, Option, Some}
use Rattle.subdiv_model.specs.Polygons.{Polygon, polygon_at}
use Rattle.level_topology.specs.Topology.{Topology}
use Rattle.level_topology.specs.Child.{PointOrigin, FromVertex, ChildTopology, IsChild, corner_origins, origins_along, point_from}

-- A child with its parent.
pub record ParentAndChild : Type 0 where
  pub parent : Topology
  pub child : ChildTopology
  pub is_child : IsChild parent child.topology child.origins child.places

-- How many faces the child has.
abbrev pub face_count : ChildTopology → ℕ
face_count child = length child.topology.level.polygons

-- The corners of a face of the child.
abbrev pub face_corners : ChildTopology → ℕ → Polygon
face_corners child f = polygon_at child.topology.level.polygons f

-- The origins of the corners of a face of the child.
abbrev pub face_origins : ChildTopology → ℕ → List PointOrigin
face_origins child f = origins_along child.origins (face_corners child f)

-- The corners of a face of the child, each as a point that is present.
abbrev pub present_corners : ChildTopology → ℕ → List (Option ℕ)
present_corners child f = map (λ p. Some p) (face_corners child f)

-- The origin of a point of the child.
abbrev pub point_origin : ChildTopology → ℕ → PointOrigin
point_origin child p = get_or child.origins p (FromVertex 0)

-- The place of a face of the child.
abbrev pub face_place : ChildTopology → ℕ → ℕ × ℕ
face_place child f = get_or child.places f (0, 0)

-- The points that come from a corner of the parent, the edge after it, the face, and the edge before the corner.
abbrev pub points_from_corner : ParentAndChild → ℕ × ℕ → List (Option ℕ)
points_from_corner pair place = map (point_from pair.child) (corner_origins pair.parent.level.polygons place)
