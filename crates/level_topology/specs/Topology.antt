-- A level as contracts see it: the level of the definitions, and the order of the faces and edges at each point. The level also marks the
-- points at which that order is a fan.
use Rattle.std.specs.Prelude.{ℕ, ◌≡◌, ◌+◌, ◌-◌, ◌<◌, ◌≤◌, ◌^◌, ◌⊎◌, Bool, true, false, nat_eq, List, [], length, map, get_or, IsTrue, if◌then◌else◌}
use Rattle.std.specs.List.{All, list_all, position_or_len, sum_by}
use Rattle.std.specs.List.Sorted.{IsPermutation}
use Rattle.subdiv_model.specs.Polygons.{Polygon, polygon_at, sides_of, has_edge, has_distinct_sides}
use Rattle.subdiv_model.specs.Edges.{all_sides, edges_of, edge_number, faces_of_edge, faces_of_point, edges_of_point}
use Rattle.subdiv_model.specs.Manifold.{is_simple, IsPath}
use Rattle.subdiv_model.specs.Level.{Level, is_well_formed}

-- A level with the lists of faces and edges at each point, and the marks of complete points.
pub record Topology : Type 0 where
  pub level : Level
  -- for each point the numbers of its faces and of its edges
  pub faces_at : List (List ℕ)
  pub edges_at : List (List ℕ)
  -- for each point whether its lists are in fan order
  pub complete : List Bool

-- The ends of the edge with a number, in the direction of its first appearance.
abbrev pub edge_at : List Polygon → ℕ → ℕ × ℕ
edge_at polygons e = get_or (edges_of polygons) e (0, 0)

-- The faces of the edge with a number.
abbrev pub faces_of_edge_at : List Polygon → ℕ → List ℕ
faces_of_edge_at polygons e = faces_of_edge polygons (edge_at polygons e)

-- The numbers of the edges of a polygon: edge c joins corner c to the next.
abbrev pub face_edges_of : List Polygon → Polygon → List ℕ
face_edges_of polygons polygon = map (edge_number polygons) (sides_of polygon)

-- The numbers of the edges at a point, ascending.
abbrev pub edge_numbers_at : List Polygon → ℕ → List ℕ
edge_numbers_at polygons v = map (edge_number polygons) (edges_of_point polygons v)

-- The place of a point among the corners of a face.
abbrev pub corner_of : List Polygon → ℕ → ℕ → ℕ
corner_of polygons v f = position_or_len (nat_eq v) (polygon_at polygons f)

-- 0 for the first end of an edge, and 1 for the second.
abbrev pub end_of : List Polygon → ℕ → ℕ → ℕ
end_of polygons v e = if nat_eq v (edge_at polygons e).0 then 0 else 1

-- The number of the edge that leaves a point in a face.
abbrev pub edge_after : List Polygon → ℕ → ℕ → ℕ
edge_after polygons v f = get_or (face_edges_of polygons (polygon_at polygons f)) (corner_of polygons v f) 0

-- The corner before a corner; the last precedes the first.
abbrev pub corner_before : ℕ → ℕ → ℕ
corner_before size c = if nat_eq c 0 then size - 1 else c - 1

-- The number of the edge that enters a point in a face.
abbrev pub edge_before : List Polygon → ℕ → ℕ → ℕ
edge_before polygons v f =
    get_or (face_edges_of polygons (polygon_at polygons f)) (corner_before (length (polygon_at polygons f)) (corner_of polygons v f)) 0

-- The corner after a corner; the first follows the last.
abbrev pub corner_after : ℕ → ℕ → ℕ
corner_after size c = if nat_eq (c + 1) size then 0 else c + 1

-- The directed edge from a corner of a polygon to the next.
abbrev pub side_at : Polygon → ℕ → ℕ × ℕ
side_at polygon c = (get_or polygon c 0, get_or polygon (corner_after (length polygon) c) 0)

-- The first end of an edge for 0, and the second for 1.
abbrev pub end_at : ℕ × ℕ → ℕ → ℕ
end_at edge place = if nat_eq place 0 then edge.0 else edge.1

-- The face exists, and the point is its corner at that place.
pub record IsFaceAt (polygons : List Polygon) (v f : ℕ) : Type 0 where
  pub exists : f < length polygons
  pub within : corner_of polygons v f < length (polygon_at polygons f)
  pub there : get_or (polygon_at polygons f) (corner_of polygons v f) 0 ≡ v

-- The edge exists, and the point is that end of it.
pub record IsEdgeAt (polygons : List Polygon) (v e : ℕ) : Type 0 where
  pub exists : e < length (edges_of polygons)
  pub there : end_at (edge_at polygons e) (end_of polygons v e) ≡ v

-- The face exists and contains the edge.
pub record IsFaceOf (polygons : List Polygon) (e f : ℕ) : Type 0 where
  pub exists : f < length polygons
  pub has : IsTrue (has_edge (edge_at polygons e) (polygon_at polygons f))

-- Faces and edges at a point in fan order. Each face is the successor of the one before it, and each edge enters the point in the face of
-- the same place. After the last face comes one more edge or, in a cycle, the first edge again.
pub record IsFan (polygons : List Polygon) (v : ℕ) (faces edges : List ℕ) : Type 0 where
  pub path : IsPath polygons v faces
  pub before : (i : ℕ) → i < length faces → get_or edges i 0 ≡ edge_before polygons v (get_or faces i 0)
  pub after : (i : ℕ) → i + 1 < length edges → i < length faces → get_or edges (i + 1) 0 ≡ edge_after polygons v (get_or faces i 0)
  pub closes : length edges ≡ length faces → 0 < length faces → edge_after polygons v (get_or faces (length faces - 1) 0) ≡ get_or edges 0 0
  pub count : (length edges ≡ length faces) ⊎ (length edges ≡ length faces + 1)

-- The lists at a point are permutations of its faces and edges: in fan order if the point is complete, and ascending otherwise.
pub record IsListedAt (t : Topology) (v : ℕ) : Type 0 where
  pub faces : IsPermutation (faces_of_point t.level.polygons v) (get_or t.faces_at v [])
  pub edges : IsPermutation (edge_numbers_at t.level.polygons v) (get_or t.edges_at v [])
  pub fan : get_or t.complete v false ≡ true → IsFan t.level.polygons v (get_or t.faces_at v []) (get_or t.edges_at v [])
  pub ascending_faces : get_or t.complete v false ≡ false → get_or t.faces_at v [] ≡ faces_of_point t.level.polygons v
  pub ascending_edges : get_or t.complete v false ≡ false → get_or t.edges_at v [] ≡ edge_numbers_at t.level.polygons v

-- The greatest size of a level.
pub record IsSmallEnough (level : Level) : Type 0 where
  pub points : level.point_count ≤ 2 ^ 30
  pub faces : length level.polygons ≤ 2 ^ 22
  pub corners : sum_by length level.polygons < 2 ^ 28
  pub sizes : All (λ polygon. length polygon ≤ 2 ^ 16) level.polygons

-- The facts of every level. It is well formed, its faces are simple, no side occurs twice, and each edge has one face or two. The lists at
-- each point contain its faces and its edges, each once.
pub record IsTopology (t : Topology) : Type 0 where
  pub formed : IsTrue (is_well_formed t.level)
  pub simple : IsTrue (list_all is_simple t.level.polygons)
  pub sides_once : IsTrue (has_distinct_sides (all_sides t.level.polygons))
  pub small : IsSmallEnough t.level
  pub face_lists : length t.faces_at ≡ t.level.point_count
  pub edge_lists : length t.edges_at ≡ t.level.point_count
  pub marks : length t.complete ≡ t.level.point_count
  pub listed : (v : ℕ) → v < t.level.point_count → IsListedAt t v
