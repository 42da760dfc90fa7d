-- The next level: each face is split into one quad for each corner.
-- Source: Catmull and Clark 1978 for the split; the order of points and faces is Drillolive's.
use Rattle.std.specs.Prelude.{ℕ, zero, suc, ◌+◌, ◌*◌, Bool, List, [], ◌∷◌, ◌++◌, length, map, replicate, if◌then◌else◌}
use Rattle.std.specs.List.{flat_map, sum_by, range_with_len, enumerate_from}
use Rattle.subdiv_model.specs.Lists.{last_of}
use Rattle.subdiv_model.specs.Polygons.{Polygon, sides_of, same_edge}
use Rattle.subdiv_model.specs.Edges.{edges_of, edge_number}
use Rattle.subdiv_model.specs.Sharpness.{Sharpness, Smooth, uniform_child, half_child}
use Rattle.subdiv_model.specs.Level.{Level, edge_sharpness_of, vertex_sharpness_of, is_hole, ring_at}

-- The points of the next level: the points of the level, then one for each face, then one for each edge.

-- the number of the new point of a face
abbrev pub face_point : ℕ → ℕ → ℕ
face_point points face = points + face

-- the number of the new point of an edge
abbrev pub edge_point : ℕ → List Polygon → ℕ × ℕ → ℕ
edge_point points polygons edge = points + length polygons + edge_number polygons edge

-- The child face of a corner: the corner, the edge point after it, the face point, and the edge point before it. The side
-- `before` ends at the corner, and the side `after` starts there.
abbrev pub child_face : ℕ → List Polygon → ℕ → ℕ × ℕ → ℕ × ℕ → Polygon
child_face points polygons face before after =
    after.0 ∷ edge_point points polygons after ∷ face_point points face ∷ edge_point points polygons before ∷ []

-- the child faces at the starts of the sides; `before` is the side before the first
abbrev pub child_faces_along : ℕ → List Polygon → ℕ → ℕ × ℕ → List (ℕ × ℕ) → List Polygon
child_faces_along points polygons face before [] = []
child_faces_along points polygons face before (side ∷ sides) = child_face points polygons face before side ∷ child_faces_along points polygons face side sides

-- the child faces of a face, in the order of its corners
abbrev pub child_faces : ℕ → List Polygon → ℕ → Polygon → List Polygon
child_faces points polygons face polygon = child_faces_along points polygons face (last_of (0, 0) (sides_of polygon)) (sides_of polygon)

-- the polygons of the next level, by face, then by corner
abbrev pub child_polygons : ℕ → List Polygon → List Polygon
child_polygons points polygons = flat_map (λ face. child_faces points polygons face.0 face.1) (enumerate_from 0 polygons)

-- the number of points of the next level
abbrev pub child_points : ℕ → List Polygon → ℕ
child_points points polygons = points + length polygons + length (edges_of polygons)

-- a child face is a hole exactly where its parent is
abbrev pub child_holes : Level → List Bool
child_holes level = flat_map (λ face. replicate (length face.1) (is_hole level face.0)) (enumerate_from 0 level.polygons)

-- the sharpness of the half of an edge that ends at v, by the method of the level
abbrev pub half_sharpness : Level → ℕ × ℕ → ℕ → Sharpness
half_sharpness level edge v = half_child level.method (ring_at level v) (edge_sharpness_of level edge)

-- the half of an edge that ends at v, with its sharpness
abbrev pub half_at : Level → ℕ × ℕ → ℕ → (ℕ × ℕ) × Sharpness
half_at level edge v = ((v, edge_point level.point_count level.polygons edge), half_sharpness level edge v)

-- the two halves of each edge, with their sharpness
abbrev pub halves_of : Level → List ((ℕ × ℕ) × Sharpness)
halves_of level = flat_map (λ edge. half_at level edge edge.0 ∷ half_at level edge edge.1 ∷ []) (edges_of level.polygons)

-- the sharpness of the first pair that names the edge, in either direction, and smooth if none does
abbrev pub sharpness_among : List ((ℕ × ℕ) × Sharpness) → ℕ × ℕ → Sharpness
sharpness_among [] edge = Smooth
sharpness_among (entry ∷ entries) edge = if same_edge edge entry.0 then entry.1 else sharpness_among entries edge

-- the sharpness of each edge of the next level: halves have theirs, and edges inside faces are smooth
abbrev pub child_edge_sharpness : Level → List Sharpness
child_edge_sharpness level = map (sharpness_among (halves_of level)) (edges_of (child_polygons level.point_count level.polygons))

-- the sharpness of each point of the next level: old points have theirs, and new points are smooth
abbrev pub child_vertex_sharpness : Level → List Sharpness
child_vertex_sharpness level =
    map (λ v. uniform_child (vertex_sharpness_of level v)) (range_with_len 0 level.point_count)
    ++ replicate (length level.polygons + length (edges_of level.polygons)) Smooth

-- the next level
abbrev pub child_level : Level → Level
child_level level = record {
  point_count = child_points level.point_count level.polygons;
  polygons = child_polygons level.point_count level.polygons;
  holes = child_holes level;
  edge_sharpness = child_edge_sharpness level;
  vertex_sharpness = child_vertex_sharpness level;
  method = level.method;
}

-- the level after k steps
abbrev pub refined_level : Level → ℕ → Level
refined_level level zero = level
refined_level level (suc k) = child_level (refined_level level k)

-- the number of faces after k steps from the polygons of level 0: one for each corner, then four for each face
abbrev pub faces_after : List Polygon → ℕ → ℕ
faces_after polygons zero = length polygons
faces_after polygons (suc zero) = sum_by length polygons
faces_after polygons (suc (suc k)) = 4 * faces_after polygons (suc k)
