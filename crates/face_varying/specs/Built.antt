-- The construction of the cut mesh from the numbers of the channel points at all corners: its faces, and the sharpness of its
-- sides and points.
use Rattle.std.specs.Prelude.{ℕ, ◌+◌, ◌^◌, ◌<◌, ◌≤◌, Bool, true, false, List, [], ◌∷◌, ◌++◌, length, map, get_or, drop, slice_range, replicate, IsTrue, if◌then◌else◌}
use Rattle.std.specs.List.{All, list_all, flat_map, sum_by, range_with_len}
use Rattle.subdiv_model.specs.Polygons.{Polygon, polygon_at, has_distinct_sides, is_over}
use Rattle.subdiv_model.specs.Edges.{all_sides}
use Rattle.subdiv_model.specs.Manifold.{is_simple}
use Rattle.subdiv_model.specs.Sharpness.{Sharpness, Smooth, Infinite, is_sharp}
use Rattle.subdiv_model.specs.Level.{Level}
use Rattle.level_topology.specs.Topology.{face_edges_of, side_at}
use Rattle.point_fans.specs.Built.{Built}
use Rattle.level_builder.specs.Builder.{with_sharp_edge}
use Rattle.face_varying.specs.CornerPlaces.{start_of}

-- the numbers at the corners of a face, among those at all corners
abbrev pub cut_face : List Polygon → List ℕ → ℕ → Polygon
cut_face faces numbers f = slice_range numbers (start_of faces f) (start_of faces (f + 1))

-- the faces of the cut mesh
abbrev pub cut_by : List Polygon → List ℕ → List Polygon
cut_by faces numbers = map (cut_face faces numbers) (range_with_len 0 (length faces))

-- the conditions on faces that a builder gets, over this many points
pub record AreFit (points : ℕ) (polygons : List Polygon) : Type 0 where
  pub over : IsTrue (is_over points polygons)
  pub simple : IsTrue (list_all is_simple polygons)
  pub sides_once : IsTrue (has_distinct_sides (all_sides polygons))
  pub faces : length polygons ≤ 2 ^ 22
  pub corners : sum_by length polygons < 2 ^ 28
  pub sizes : All (λ polygon. length polygon ≤ 2 ^ 16) polygons

-- the sharpness of a side whose edge in the mesh has this number: infinite if the faces there are apart, else that of the edge
abbrev pub side_sharpness : Level → List Bool → ℕ → Sharpness
side_sharpness level apart e = if get_or apart e false then Infinite else get_or level.edge_sharpness e Smooth

-- the first `count` sides of a face with their sharpness, from the numbers of its edges in the mesh
abbrev pub first_sides : Level → List Bool → Polygon → List ℕ → ℕ → List ((ℕ × ℕ) × Sharpness)
first_sides level apart corners edges count = map (λ c. (side_at corners c, side_sharpness level apart (get_or edges c 0))) (range_with_len 0 count)

abbrev pub face_sides : Level → List Bool → Polygon → List ℕ → List ((ℕ × ℕ) × Sharpness)
face_sides level apart corners edges = first_sides level apart corners edges (length corners)

-- the sides of the face with a number, and those of all faces before a number
abbrev pub sides_at : Level → List Bool → List ℕ → ℕ → List ((ℕ × ℕ) × Sharpness)
sides_at level apart numbers f = face_sides level apart (cut_face level.polygons numbers f) (face_edges_of level.polygons (polygon_at level.polygons f))

abbrev pub sides_before : Level → List Bool → List ℕ → ℕ → List ((ℕ × ℕ) × Sharpness)
sides_before level apart numbers f = flat_map (sides_at level apart numbers) (range_with_len 0 f)

-- an edge gets its sharpness, unless it is smooth
abbrev pub with_side : (ℕ × ℕ) × Sharpness → Built → Built
with_side side built = if is_sharp side.1 then with_sharp_edge side.0 side.1 built else built

abbrev pub with_sides : List ((ℕ × ℕ) × Sharpness) → Built → Built
with_sides [] built = built
with_sides (side ∷ sides) built = with_sides sides (with_side side built)

-- a point is infinitely sharp if the mode keeps it so, and else as sharp as its vertex
abbrev pub point_sharpness : Level → List ℕ → List Bool → ℕ → Sharpness
point_sharpness level vertices kept p = if get_or kept p false then Infinite else get_or level.vertex_sharpness (get_or vertices p 0) Smooth

-- the first points have this sharpness and are complete
abbrev pub with_points : (ℕ → Sharpness) → ℕ → Built → Built
with_points sharpness count built = record {
  level = record {
    point_count = built.level.point_count;
    polygons = built.level.polygons;
    holes = built.level.holes;
    edge_sharpness = built.level.edge_sharpness;
    vertex_sharpness = map sharpness (range_with_len 0 count) ++ drop count built.level.vertex_sharpness;
    method = built.level.method;
  };
  complete = replicate count true ++ drop count built.complete;
}
