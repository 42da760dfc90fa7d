-- The state of a builder: the level under construction, and the points marked complete.
use Rattle.std.specs.Prelude.{ℕ, ◌-◌, Bool, true, false, not, List, [], ◌∷◌, ◌++◌, length, slice_set, replicate}
use Rattle.std.specs.List.{list_all, list_any}
use Rattle.subdiv_model.specs.Polygons.{Polygon, same_side, sides_of}
use Rattle.subdiv_model.specs.Edges.{all_sides, edges_of, edge_number}
use Rattle.subdiv_model.specs.Sharpness.{Sharpness, Smooth, Method}
use Rattle.point_fans.specs.Built.{Built}

-- The state with points only.
abbrev pub only_points : ℕ → Method → Built
only_points points method = record {
  level = record {
    point_count = points;
    polygons = [];
    holes = [];
    edge_sharpness = [];
    vertex_sharpness = replicate points Smooth;
    method = method;
  };
  complete = replicate points false;
}

-- The state after one more face, whose new edges are smooth.
abbrev pub with_polygon : Polygon → Bool → Built → Built
with_polygon corners hole built = record {
  level = record {
    point_count = built.level.point_count;
    polygons = built.level.polygons ++ corners ∷ [];
    holes = built.level.holes ++ hole ∷ [];
    edge_sharpness = built.level.edge_sharpness
        ++ replicate (length (edges_of (built.level.polygons ++ corners ∷ [])) - length (edges_of built.level.polygons)) Smooth;
    vertex_sharpness = built.level.vertex_sharpness;
    method = built.level.method;
  };
  complete = built.complete;
}

-- The state after a sharpness was set for an edge.
abbrev pub with_sharp_edge : ℕ × ℕ → Sharpness → Built → Built
with_sharp_edge edge sharpness built = record {
  level = record {
    point_count = built.level.point_count;
    polygons = built.level.polygons;
    holes = built.level.holes;
    edge_sharpness = slice_set built.level.edge_sharpness (edge_number built.level.polygons edge) sharpness;
    vertex_sharpness = built.level.vertex_sharpness;
    method = built.level.method;
  };
  complete = built.complete;
}

-- The state after a sharpness was set for a point.
abbrev pub with_sharp_vertex : ℕ → Sharpness → Built → Built
with_sharp_vertex v sharpness built = record {
  level = record {
    point_count = built.level.point_count;
    polygons = built.level.polygons;
    holes = built.level.holes;
    edge_sharpness = built.level.edge_sharpness;
    vertex_sharpness = slice_set built.level.vertex_sharpness v sharpness;
    method = built.level.method;
  };
  complete = built.complete;
}

-- The state after a point was marked complete.
abbrev pub with_complete : ℕ → Built → Built
with_complete v built = record { level = built.level; complete = slice_set built.complete v true }

-- No earlier face has one of the polygon's sides.
abbrev pub has_new_sides : List Polygon → Polygon → Bool
has_new_sides polygons corners = list_all (λ side. not (list_any (same_side side) (all_sides polygons))) (sides_of corners)
