-- The tables of a child. They keep each point and each face by its number in the whole next level, and give its place in the child by that
-- number.
use Rattle.std.specs.Prelude.{ℕ, ◌≡◌, ◌+◌, ◌-◌, ◌<◌, ◌≤◌, ◌^◌, nat_eq, nat_lt, List, [], ◌∷◌, length, map, get_or, Option, Some, None, if◌then◌else◌}
use Rattle.std.specs.List.{position, position_or_len, range_with_len}
use Rattle.level_topology.specs.Topology.{Topology}
use Rattle.level_topology.specs.Packed.{Ascend, gaps}
use Rattle.level_topology.specs.Child.{PointOrigin, FromVertex, FromFace, FromEdge, ChildTopology, HasParent}
use Rattle.level_topology.specs.declared.child_origin.Origin.{Origin}
use Rattle.level_topology.specs.declared.child_origin.Origin.TheVariants.{Vertex, Face, Edge}
use Rattle.level_topology.specs.declared.child_origin.FacePlace.{FacePlace}
use Rattle.level_topology.specs.declared.child_tables.ChildTables.{ChildTables}

-- An origin as contracts see it.
abbrev pub origin_of : Origin → PointOrigin
origin_of (Vertex v) = FromVertex v
origin_of (Face f) = FromFace f
origin_of (Edge e) = FromEdge e

-- A place as contracts see it: the face, then the corner.
abbrev pub place_of : FacePlace → ℕ × ℕ
place_of place = (place.face, place.corner)

-- The number of a point in the whole next level, given the numbers of points and faces.
abbrev pub point_number : ℕ → ℕ → PointOrigin → ℕ
point_number points faces (FromVertex v) = v
point_number points faces (FromFace f) = points + f
point_number points faces (FromEdge e) = points + faces + e

-- The origin of the point with a number in the whole next level.
abbrev pub numbered_origin : ℕ → ℕ → ℕ → PointOrigin
numbered_origin points faces n =
    if nat_lt n points then FromVertex n else (if nat_lt (n - points) faces then FromFace (n - points) else FromEdge (n - points - faces))

-- The number of a face in the whole next level. `starts` has the number of the first child of each face of the parent.
abbrev pub corner_number : List ℕ → ℕ × ℕ → ℕ
corner_number starts place = get_or starts place.0 0 + place.1

-- The place of the face with a number in the whole next level. The first start is that of `face`.
abbrev pub numbered_place : ℕ → List ℕ → ℕ → ℕ × ℕ
numbered_place face [] n = (face, n)
numbered_place face (a ∷ []) n = (face, n - a)
numbered_place face (a ∷ (b ∷ starts)) n = if nat_lt n b then (face, n - a) else numbered_place (face + 1) (b ∷ starts) n

-- A place as a table keeps it: the greatest 32-bit number marks a missing one.
abbrev pub kept_place : Option ℕ → ℕ
kept_place None = 2 ^ 32 - 1
kept_place (Some p) = p

-- The place that a table keeps, or `None` for the mark of a missing one.
abbrev pub present_place : ℕ → Option ℕ
present_place p = if nat_eq p (2 ^ 32 - 1) then None else Some p

-- The table has the place of each number in the list, if the list contains it.
abbrev pub IsInverse : List ℕ → List ℕ → Type 0
IsInverse numbers table = (n : ℕ) → n < length table → get_or table n 0 ≡ kept_place (position (nat_eq n) numbers)

-- The numbers of points with these origins, and a table of their places.
pub record AreNumbered (points faces edges : ℕ) (origins : List PointOrigin) (made table : List ℕ) : Type 0 where
  pub numbers : made ≡ map (point_number points faces) origins
  pub count : length table ≡ points + faces + edges
  pub inverse : IsInverse made table

-- The number at each place of a table, for `count` places.
abbrev pub numbers_in : List ℕ → ℕ → List ℕ
numbers_in table count = map (λ p. position_or_len (nat_eq p) table) (range_with_len 0 count)

-- The child that the tables keep.
abbrev pub child_in : Topology → ChildTables → ChildTopology
child_in level t = record {
  topology = level;
  parent_points = t.vertices;
  parent_sizes = gaps t.starts.items;
  parent_edges = length t.points.items - t.vertices - t.faces;
  origins = map (numbered_origin t.vertices t.faces) t.numbers.items;
  places = map (numbered_place 0 t.starts.items) (numbers_in t.child_faces.items (length level.level.polygons));
}

-- The tables are those of a child that is this level.
pub record AreOfChild (level : Topology) (t : ChildTables) : Type 0 where
  pub parent : HasParent (child_in level t)
  pub points : IsInverse (map (point_number t.vertices t.faces) (child_in level t).origins) t.points.items
  pub faces : IsInverse (map (corner_number t.starts.items) (child_in level t).places) t.child_faces.items
  pub ascend : Ascend t.starts.items (length t.child_faces.items)
  pub face_count : t.faces ≡ length (gaps t.starts.items)
  pub total : t.vertices + t.faces ≤ length t.points.items
