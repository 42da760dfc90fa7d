-- The edges of a list of polygons, by first appearance, and the faces and edges at an edge or a point.
-- Source: Drillolive.
use Rattle.std.specs.Prelude.{ℕ, Bool, ◌&&◌, ◌||◌, nat_eq, List, length}
use Rattle.std.specs.List.{filter, flat_map, list_all, count_by, position_or_len}
use Rattle.subdiv_model.specs.Polygons.{Polygon, sides_of, same_side, same_edge, has_corner, has_edge}
use Rattle.subdiv_model.specs.Lists.{places, each_once_by}

-- the directed edges of all polygons, over polygons and corners
abbrev pub all_sides : List Polygon → List (ℕ × ℕ)
all_sides polygons = flat_map sides_of polygons

-- the directed edges that name an edge for the first time
abbrev pub first_named : List (ℕ × ℕ) → List (ℕ × ℕ)
first_named sides = each_once_by same_edge sides

-- the edges: unordered pairs of neighbouring corners, by first appearance over polygons and corners; each keeps the direction of
-- its first appearance
abbrev pub edges_of : List Polygon → List (ℕ × ℕ)
edges_of polygons = first_named (all_sides polygons)

-- the number of an edge by first appearance; the number of edges for a pair that is no edge
abbrev pub edge_number : List Polygon → ℕ × ℕ → ℕ
edge_number polygons edge = position_or_len (same_edge edge) (edges_of polygons)

-- the numbers of the polygons that have the edge, ascending
abbrev pub faces_of_edge : List Polygon → ℕ × ℕ → List ℕ
faces_of_edge polygons edge = places (has_edge edge) polygons

-- the numbers of the polygons that have the point, ascending
abbrev pub faces_of_point : List Polygon → ℕ → List ℕ
faces_of_point polygons v = places (has_corner v) polygons

-- the edge ends at the point
abbrev pub has_end : ℕ → ℕ × ℕ → Bool
has_end v edge = nat_eq v edge.0 || nat_eq v edge.1

-- the edges that end at the point, by first appearance
abbrev pub edges_of_point : List Polygon → ℕ → List (ℕ × ℕ)
edges_of_point polygons v = filter (has_end v) (edges_of polygons)

-- the edge belongs to exactly one face
abbrev pub is_boundary : List Polygon → ℕ × ℕ → Bool
is_boundary polygons edge = nat_eq (length (faces_of_edge polygons edge)) 1

-- each edge is in exactly two polygons
abbrev pub is_closed : List Polygon → Bool
is_closed polygons = list_all (λ edge. nat_eq (length (faces_of_edge polygons edge)) 2) (edges_of polygons)

-- the directed edge from the second end to the first
abbrev pub reversed : ℕ × ℕ → ℕ × ℕ
reversed side = (side.1, side.0)

-- how often a directed edge occurs
abbrev pub times_used : List Polygon → ℕ × ℕ → ℕ
times_used polygons side = count_by (same_side side) (all_sides polygons)

-- each directed edge occurs once, and its reverse occurs once
abbrev pub goes_both_ways : List Polygon → Bool
goes_both_ways polygons =
    list_all (λ side. nat_eq (times_used polygons side) 1 && nat_eq (times_used polygons (reversed side)) 1) (all_sides polygons)
