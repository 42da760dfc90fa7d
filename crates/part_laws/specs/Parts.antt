-- Some polygons of a mesh, under other numbers of their points.
-- Source: Drillolive.
use Rattle.std.specs.Prelude.{◌≡◌, ℕ, ◌<◌, Bool, List, length, map, get_or, IsTrue}
use Rattle.std.specs.List.{All, list_any}
use Rattle.std.specs.List.Sorted.{IsStrictlyIncreasing}
use Rattle.subdiv_model.specs.Polygons.{Polygon, polygon_at, has_corner, has_edge, is_among}

-- the point is a corner of one of the polygons
abbrev pub is_corner : List Polygon → ℕ → Bool
is_corner polygons p = list_any (has_corner p) polygons

-- both ends of the edge are corners of the polygons
pub record HasEnds (polygons : List Polygon) (edge : ℕ × ℕ) : Type 0 where
  pub first : IsTrue (is_corner polygons edge.0)
  pub second : IsTrue (is_corner polygons edge.1)

-- an edge with the names of its ends
abbrev pub renamed : (ℕ → ℕ) → ℕ × ℕ → ℕ × ℕ
renamed name edge = (name edge.0, name edge.1)

-- the number of a face of the part in the whole
abbrev pub face_in : List ℕ → ℕ → ℕ
face_in faces k = get_or faces k 0

-- The polygons of `part` are the polygons of `whole` with these numbers, in order. Each point of the part has a name in the
-- whole, and different corners have different names.
pub record IsPart (name : ℕ → ℕ) (faces : List ℕ) (part whole : List Polygon) : Type 0 where
  pub ascending : IsStrictlyIncreasing faces
  pub inside : All (λ f. f < length whole) faces
  pub same : map (map name) part ≡ map (polygon_at whole) faces
  pub apart : (p q : ℕ) → IsTrue (is_corner part p) → IsTrue (is_corner part q) → name p ≡ name q → p ≡ q

-- the listed polygons include every polygon of the whole at the point
abbrev pub IsWholeAt : List ℕ → List Polygon → ℕ → Type 0
IsWholeAt faces whole v = (f : ℕ) → IsTrue (has_corner v (polygon_at whole f)) → IsTrue (is_among faces f)

-- the listed polygons include every polygon of the whole along the edge
abbrev pub IsWholeAlong : List ℕ → List Polygon → ℕ × ℕ → Type 0
IsWholeAlong faces whole edge = (f : ℕ) → IsTrue (has_edge edge (polygon_at whole f)) → IsTrue (is_among faces f)
