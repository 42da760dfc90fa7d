-- The lists of the points of the next level, while they are made.
use Rattle.std.specs.Prelude.{ℕ, ◌≡◌, ◌*◌, true, nat_lt, List, [], length, map, take, replicate}
use Rattle.std.specs.List.{count_by, sum_by}
use Rattle.subdiv_model.specs.Polygons.{Polygon}
use Rattle.subdiv_model.specs.Edges.{edges_of}
use Rattle.subdiv_model.specs.Child.{child_polygons, child_points, child_vertex_sharpness}
use Rattle.subdiv_model.specs.Level.{Level}
use Rattle.level_topology.specs.PointRows.{AreRows}
use Rattle.level_topology.specs.ListPlaces.{joined, pair_list}
use Rattle.level_topology.specs.Rows.{Counts, Rows}

-- the lists without those of points
abbrev pub without_points : Rows → Rows
without_points rows = record rows {
  vertex_faces = [];
  vertex_faces_at = [];
  vertex_edges = [];
  vertex_edges_at = [];
  vertex_sharpness = [];
  complete = [];
}

abbrev pub children_of : Level → List Polygon
children_of level = child_polygons level.point_count level.polygons

-- the first points are made, each complete, and memory is reserved for the others
pub record ArePoints (level : Level) (count : ℕ) (rows : Rows) : Type 0 where
  pub rows_are : AreRows (children_of level) (replicate (child_points level.point_count level.polygons) true) count rows.vertex_faces rows.vertex_faces_at rows.vertex_edges rows.vertex_edges_at
  pub sharpness : rows.vertex_sharpness ≡ take count (child_vertex_sharpness level)
  pub complete : rows.complete ≡ replicate count true
  pub face_sum : sum_by length rows.vertex_faces ≡ count_by (λ x. nat_lt x count) (joined (children_of level))
  pub edge_sum : sum_by length rows.vertex_edges ≡ count_by (λ x. nat_lt x count) (joined (map pair_list (edges_of (children_of level))))
  pub point_total : rows.counts.points ≡ child_points level.point_count level.polygons
  pub face_total : rows.counts.face_places ≡ sum_by length (children_of level)
  pub edge_total : rows.counts.edge_places ≡ 2 * length (edges_of (children_of level))

-- the sizes of the next level, if it has this many edges
abbrev pub counts_for : Level → ℕ → Counts
counts_for level edges = record {
  points = child_points level.point_count level.polygons;
  edges = edges;
  faces = sum_by length level.polygons;
  corners = 4 * sum_by length level.polygons;
  face_places = 4 * sum_by length level.polygons;
  edge_places = 2 * edges;
}
