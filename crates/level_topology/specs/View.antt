-- The packed tables as whole lists.
use Rattle.std.specs.Prelude.{ℕ, ◌≡◌, ◌≤◌, nat_eq, List, [], ◌∷◌, length, map, if◌then◌else◌}
use Rattle.std.specs.Vec.{vec_capacity}
use Rattle.std.specs.Option.{option_to_list}
use Rattle.level_topology.specs.declared.faces.EdgeFaces.{EdgeFaces}
use Rattle.level_topology.specs.declared.facts.FaceFacts.{FaceFacts}
use Rattle.level_topology.specs.declared.tables.LevelTables.{LevelTables}
use Rattle.subdiv_model.specs.Feature as feature
use Rattle.sharpness_rules.specs.View.{method_of}
use Rattle.level_topology.specs.Rows.{Rows}

-- The faces of an edge from a pair of numbers, which are equal if there is one face.
abbrev pub faces_of_pair : ℕ × ℕ → List ℕ
faces_of_pair pair = if nat_eq pair.0 pair.1 then pair.0 ∷ [] else pair.0 ∷ (pair.1 ∷ [])

-- The faces of an edge as a list.
abbrev pub listed : EdgeFaces → List ℕ
listed faces = faces.first ∷ option_to_list faces.second

-- The facts of a face as in the definitions.
abbrev pub facts_of_code : FaceFacts → feature.FaceFacts
facts_of_code facts = record {
  level = facts.level;
  number = facts.number;
  size = facts.size;
  hole = facts.hole;
  irregular = facts.irregular;
  sharp = facts.sharp;
}

-- The lists that the tables keep.
abbrev pub rows_of : LevelTables → Rows
rows_of t = record {
  counts = record {
    points = t.vertex_faces.list_limit;
    edges = t.edge_sharpness.limit;
    faces = t.faces.list_limit;
    corners = t.faces.item_limit;
    face_places = t.vertex_faces.item_limit;
    edge_places = t.vertex_edges.item_limit;
  };
  method = method_of t.method;
  face_vertices = t.faces.lists;
  face_edges = t.faces.beside;
  holes = t.holes.items;
  edge_vertices = t.edge_vertices.items;
  edge_faces = map faces_of_pair t.edge_faces.items;
  edge_sharpness = t.edge_sharpness.sharpness;
  vertex_faces = t.vertex_faces.lists;
  vertex_faces_at = t.vertex_faces.beside;
  vertex_edges = t.vertex_edges.lists;
  vertex_edges_at = t.vertex_edges.beside;
  vertex_sharpness = t.vertex_sharpness.sharpness;
  complete = t.complete.items;
}

-- The lists of faces, of edges and of points have equal lengths each, and there is room for every item.
pub record AreParallelTables (t : LevelTables) : Type 0 where
  pub holes : length t.holes.items ≡ length t.faces.lists
  pub edge_vertices : length t.edge_vertices.items ≡ length t.edge_sharpness.sharpness
  pub edge_faces : length t.edge_faces.items ≡ length t.edge_sharpness.sharpness
  pub edge_lists : length t.vertex_edges.lists ≡ length t.vertex_faces.lists
  pub vertex_sharpness : length t.vertex_sharpness.sharpness ≡ length t.vertex_faces.lists
  pub complete : length t.complete.items ≡ length t.vertex_faces.lists
  pub edge_points : t.vertex_edges.list_limit ≡ t.vertex_faces.list_limit
  pub sharp_points : t.vertex_sharpness.limit ≡ t.vertex_faces.list_limit
  pub hole_capacity : t.faces.list_limit ≤ vec_capacity t.holes
  pub end_capacity : t.edge_sharpness.limit ≤ vec_capacity t.edge_vertices
  pub face_capacity : t.edge_sharpness.limit ≤ vec_capacity t.edge_faces
  pub mark_capacity : t.vertex_faces.list_limit ≤ vec_capacity t.complete
