-- A level with marks of complete points, and the conditions on its faces and numbered edges.
use Rattle.std.specs.Prelude.{ℕ, ◌≡◌, ◌<◌, Bool, true, false, List, [], length, map, get_or, IsTrue}
use Rattle.std.specs.List.{list_all}
use Rattle.subdiv_model.specs.Polygons.{Polygon, has_distinct_sides, is_over}
use Rattle.subdiv_model.specs.Edges.{all_sides}
use Rattle.subdiv_model.specs.Manifold.{is_simple, has_one_fan}
use Rattle.subdiv_model.specs.Sharpness.{Sharpness, Method, is_proper_sharpness}
use Rattle.subdiv_model.specs.Level.{Level}
use Rattle.level_topology.specs.Topology.{IsSmallEnough, face_edges_of}
use Rattle.level_topology.specs.Packed.{Paired}
use Rattle.level_topology.specs.PointRows.{IsRow, AreRows}
use Rattle.level_topology.specs.declared.point_lists.PointLists.{PointLists}
use Rattle.level_topology.specs.Numbering.{Numbered, IsNumbering}

-- A level under construction, and the points marked complete.
pub record Built : Type 0 where
  pub level : Level
  -- for each point whether it is complete
  pub complete : List Bool

-- The level with these parts, and the marks of its points.
abbrev pub built_of : ℕ → List Polygon → List Bool → List Sharpness → List Sharpness → Method → List Bool → Built
built_of points polygons holes edge_sharpness vertex_sharpness method complete = record {
  level = record {
    point_count = points;
    polygons = polygons;
    holes = holes;
    edge_sharpness = edge_sharpness;
    vertex_sharpness = vertex_sharpness;
    method = method;
  };
  complete = complete;
}

-- The faces of each marked point form one fan, or it has none.
abbrev pub AreFans : Built → Type 0
AreFans built = (v : ℕ) → v < built.level.point_count → get_or built.complete v false ≡ true → IsTrue (has_one_fan built.level.polygons v)

-- the row has the lists at this point: in fan order where it is complete, and ascending where it is not
abbrev pub IsListedAt : Built → ℕ → PointLists → Type 0
IsListedAt built v row =
    IsRow built.level.polygons v (get_or built.complete v false) row.faces.items row.faces_at.items row.edges.items row.edges_at.items

-- the faces and the edges at each point are listed, each with the corner or the end there
abbrev pub AreListed : Built → Paired ℕ → Paired ℕ → Type 0
AreListed built faces edges =
    AreRows built.level.polygons built.complete built.level.point_count faces.lists faces.beside edges.lists edges.beside

-- The conditions on a level under construction. The corners are points, the lists have their lengths, and each sharpness is well formed.
-- The faces are simple, no side occurs twice, and the edges are numbered.
pub record IsBuilt (built : Built) (edges : Numbered) (numbers : List (List ℕ)) : Type 0 where
  pub over : IsTrue (is_over built.level.point_count built.level.polygons)
  pub holes : length built.level.holes ≡ length built.level.polygons
  pub vertices : length built.level.vertex_sharpness ≡ built.level.point_count
  pub marks : length built.complete ≡ built.level.point_count
  pub edge_proper : IsTrue (list_all is_proper_sharpness built.level.edge_sharpness)
  pub vertex_proper : IsTrue (list_all is_proper_sharpness built.level.vertex_sharpness)
  pub simple : IsTrue (list_all is_simple built.level.polygons)
  pub sides_once : IsTrue (has_distinct_sides (all_sides built.level.polygons))
  pub small : IsSmallEnough built.level
  pub numbering : IsNumbering built.level.polygons [] edges
  pub sharpness : edges.sharpness ≡ built.level.edge_sharpness
  pub face_edges : numbers ≡ map (face_edges_of built.level.polygons) built.level.polygons
