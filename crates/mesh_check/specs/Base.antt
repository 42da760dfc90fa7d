-- The construction of level 0: its parts, and the effect of each tag.
use Rattle.std.specs.Prelude.{ℕ, ◌≡◌, ◌≤◌, ◌^◌, true, false, nat_eq, Bool, List, [], ◌∷◌, length, map, replicate, None, if◌then◌else◌}
use Rattle.std.specs.List.{All, list_any, range_with_len}
use Rattle.subdiv_model.specs.Polygons.{Polygon, same_edge, is_among}
use Rattle.subdiv_model.specs.Edges.{all_sides, edges_of}
use Rattle.subdiv_model.specs.Lists.{places}
use Rattle.subdiv_model.specs.Sharpness.{Sharpness, Smooth, Infinite, Method}
use Rattle.subdiv_model.specs.Base.{base_edge_sharpness, base_vertex_sharpness}
use Rattle.subdiv_model.specs.MeshFault.{first_mesh_fault}
use Rattle.subdiv_model.specs.ObjMesh.{ObjMesh}
use Rattle.raw_mesh.specs.Laws.{IsWithin}
use Rattle.point_fans.specs.Built.{Built}
use Rattle.level_builder.specs.Builder.{with_sharp_edge, with_sharp_vertex}
use Rattle.level_builder.specs.Keys.{IsWord, Rises, edge_key}

-- a manifold whose counts are within their limits
pub record IsFit (mesh : ObjMesh) : Type 0 where
  pub within : IsWithin mesh
  pub sound : first_mesh_fault (length mesh.points) mesh.faces ≡ None
  pub points : length mesh.points ≤ 2 ^ 20
  pub faces : length mesh.faces ≤ 2 ^ 20
  pub sizes : All (λ polygon. length polygon ≤ 2 ^ 16) mesh.faces

-- the numbers of all edges and no others, ascending
pub record AreEdges (polygons : List Polygon) (edges : List ℕ) : Type 0 where
  pub rises : Rises edges
  pub all : (s : ℕ × ℕ) → IsWord s → is_among edges (edge_key s) ≡ list_any (same_edge s) (all_sides polygons)

-- points and faces with their marks; all edges and points are smooth, and no point is complete
abbrev pub smooth_built : ℕ → Method → List Polygon → List Bool → Built
smooth_built points method polygons holes = record {
  level = record {
    point_count = points;
    polygons = polygons;
    holes = holes;
    edge_sharpness = replicate (length (edges_of polygons)) Smooth;
    vertex_sharpness = replicate points Smooth;
    method = method;
  };
  complete = replicate points false;
}

-- a tag of a pair sets the sharpness of its edge, and has no effect if the pair is no edge
abbrev pub with_edge_tag : (ℕ × ℕ) × Sharpness → Built → Built
with_edge_tag tag built = if list_any (same_edge tag.0) (edges_of built.level.polygons) then with_sharp_edge tag.0 tag.1 built else built

-- one tag after the other, so that the last for an edge counts
abbrev pub with_edge_tags : List ((ℕ × ℕ) × Sharpness) → Built → Built
with_edge_tags [] built = built
with_edge_tags (tag ∷ tags) built = with_edge_tags tags (with_edge_tag tag built)

abbrev pub with_vertex_tags : List (ℕ × Sharpness) → Built → Built
with_vertex_tags [] built = built
with_vertex_tags (tag ∷ tags) built = with_vertex_tags tags (with_sharp_vertex tag.0 tag.1 built)

-- a tag of infinite sharpness for each edge, or vertex
abbrev pub infinite : {K : Type 0} → List K → List (K × Sharpness)
infinite named = map (λ k. (k, Infinite)) named

-- the vertices that are a corner of one face; the list has the number of corners at each
abbrev pub single_corners : List ℕ → List ℕ
single_corners counts = places (λ count. nat_eq count 1) counts

-- the mesh with the sharpness of its tags and its boundary, where no point is complete
abbrev pub tagged_built : ObjMesh → List Bool → Built
tagged_built mesh holes = record {
  level = record {
    point_count = length mesh.points;
    polygons = mesh.faces;
    holes = holes;
    edge_sharpness = map (base_edge_sharpness mesh) (edges_of mesh.faces);
    vertex_sharpness = map (base_vertex_sharpness mesh) (range_with_len 0 (length mesh.points));
    method = mesh.method;
  };
  complete = replicate (length mesh.points) false;
}

-- every point is marked complete
abbrev pub all_complete : Built → Built
all_complete built = record { level = built.level; complete = replicate built.level.point_count true }
