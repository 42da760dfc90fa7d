-- The faults of a mesh, and the one that is reported.
-- Source: Drillolive.
use Rattle.std.specs.Prelude.{ℕ, Bool, not, ◌||◌, nat_le, nat_lt, List, ◌++◌, length, map, Option}
use Rattle.std.specs.List.{filter, count_by, range_with_len}
use Rattle.subdiv_model.specs.Polygons.{Polygon, same_edge, is_distinct}
use Rattle.subdiv_model.specs.Lists.{places, first_of}
use Rattle.subdiv_model.specs.Edges.{all_sides, edges_of, times_used, reversed}
use Rattle.subdiv_model.specs.Manifold.{has_one_fan}

-- a fault, with the numbers of its face, edge or vertex, counted from 0
pub data MeshFault : Type 0 where
  FaceTooSmall : ℕ → MeshFault
  RepeatedVertex : ℕ → MeshFault
  NonManifoldEdge : ℕ → ℕ → MeshFault
  WindingClash : ℕ → ℕ → MeshFault
  SplitVertex : ℕ → MeshFault

-- the faces with fewer than three corners, ascending
abbrev pub small_faces : List Polygon → List ℕ
small_faces polygons = places (λ polygon. nat_lt (length polygon) 3) polygons

-- the faces that name a vertex twice, ascending
abbrev pub repeating_faces : List Polygon → List ℕ
repeating_faces polygons = places (λ polygon. not (is_distinct polygon)) polygons

-- the edge occurs three or more times, in either direction
abbrev pub is_crowded : List Polygon → ℕ × ℕ → Bool
is_crowded polygons edge = nat_le 3 (count_by (same_edge edge) (all_sides polygons))

-- the edge occurs twice or more in one direction
abbrev pub is_clashing : List Polygon → ℕ × ℕ → Bool
is_clashing polygons edge = nat_le 2 (times_used polygons edge) || nat_le 2 (times_used polygons (reversed edge))

-- the edges that occur three or more times, by first appearance
abbrev pub crowded_edges : List Polygon → List (ℕ × ℕ)
crowded_edges polygons = filter (is_crowded polygons) (edges_of polygons)

-- the edges that occur twice in one direction, by first appearance
abbrev pub clashing_edges : List Polygon → List (ℕ × ℕ)
clashing_edges polygons = filter (is_clashing polygons) (edges_of polygons)

-- the vertices whose faces are not one fan, ascending
abbrev pub split_vertices : ℕ → List Polygon → List ℕ
split_vertices points polygons = filter (λ v. not (has_one_fan polygons v)) (range_with_len 0 points)

-- all faults, kind by kind; within a kind by face, edge or vertex
abbrev pub mesh_faults : ℕ → List Polygon → List MeshFault
mesh_faults points polygons =
    map FaceTooSmall (small_faces polygons)
    ++ (map RepeatedVertex (repeating_faces polygons)
    ++ (map (λ edge. NonManifoldEdge edge.0 edge.1) (crowded_edges polygons)
    ++ (map (λ edge. WindingClash edge.0 edge.1) (clashing_edges polygons) ++ map SplitVertex (split_vertices points polygons))))

-- the fault that is reported: the first
abbrev pub first_mesh_fault : ℕ → List Polygon → Option MeshFault
first_mesh_fault points polygons = first_of (mesh_faults points polygons)
