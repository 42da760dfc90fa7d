-- Polygons as plain lists of corners: their directed edges, and their places in a list.
-- Source: Drillolive.
use Rattle.std.specs.Prelude.{ℕ, Bool, true, not, ◌&&◌, ◌||◌, nat_eq, nat_lt, List, [], ◌∷◌, get_or}
use Rattle.std.specs.List.{list_any, list_all}

-- the corners in order, each the number of a point
abbrev pub Polygon : Type 0
Polygon = List ℕ

-- each corner of a path with the next one, and the last with `first`
abbrev pub sides_back_to : ℕ → Polygon → List (ℕ × ℕ)
sides_back_to first [] = []
sides_back_to first (v ∷ rest) = (v, get_or rest 0 first) ∷ sides_back_to first rest

-- the directed edges of a polygon: each corner with the next one, and the last with the first
abbrev pub sides_of : Polygon → List (ℕ × ℕ)
sides_of [] = []
sides_of (v ∷ rest) = sides_back_to v (v ∷ rest)

-- both have the same ends in the same direction
abbrev pub same_side : ℕ × ℕ → ℕ × ℕ → Bool
same_side s t = nat_eq s.0 t.0 && nat_eq s.1 t.1

-- both have the same ends, in either direction
abbrev pub same_edge : ℕ × ℕ → ℕ × ℕ → Bool
same_edge s t = same_side s t || (nat_eq s.0 t.1 && nat_eq s.1 t.0)

-- the number is one of the list
abbrev pub is_among : List ℕ → ℕ → Bool
is_among numbers n = list_any (nat_eq n) numbers

-- the polygon has a corner at the point
abbrev pub has_corner : ℕ → Polygon → Bool
has_corner v polygon = is_among polygon v

-- the polygon has the directed edge
abbrev pub has_side : ℕ × ℕ → Polygon → Bool
has_side s polygon = list_any (same_side s) (sides_of polygon)

-- the polygon has the edge, in either direction
abbrev pub has_edge : ℕ × ℕ → Polygon → Bool
has_edge s polygon = list_any (same_edge s) (sides_of polygon)

-- no number occurs twice
abbrev pub is_distinct : List ℕ → Bool
is_distinct [] = true
is_distinct (v ∷ rest) = not (is_among rest v) && is_distinct rest

-- no directed edge occurs twice
abbrev pub has_distinct_sides : List (ℕ × ℕ) → Bool
has_distinct_sides [] = true
has_distinct_sides (s ∷ sides) = not (list_any (same_side s) sides) && has_distinct_sides sides

-- the polygon of this number, and an empty one if the list has none
abbrev pub polygon_at : List Polygon → ℕ → Polygon
polygon_at polygons face = get_or polygons face []

-- each corner is less than the number of points
abbrev pub is_over : ℕ → List Polygon → Bool
is_over points polygons = list_all (list_all (λ v. nat_lt v points)) polygons
