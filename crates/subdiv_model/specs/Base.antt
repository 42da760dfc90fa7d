-- Level 0: an accepted mesh with the sharpness, holes and boundary mode that its text gives.
-- Source: Drillolive.
use Rattle.std.specs.Prelude.{ℕ, Bool, false, ◌&&◌, ◌||◌, nat_eq, List, map, length, if◌then◌else◌}
use Rattle.std.specs.List.{filter, list_any, range_with_len, enumerate_from}
use Rattle.subdiv_model.specs.Lists.{last_of}
use Rattle.subdiv_model.specs.Polygons.{Polygon, same_edge, is_among}
use Rattle.subdiv_model.specs.Edges.{edges_of, is_boundary, faces_of_point, has_end}
use Rattle.subdiv_model.specs.Sharpness.{Sharpness, Smooth, Infinite}
use Rattle.subdiv_model.specs.Level.{Level}
use Rattle.subdiv_model.specs.Boundary.{Boundary, Hidden, EdgeOnly, EdgeAndCorner}
use Rattle.subdiv_model.specs.ObjMesh.{ObjMesh}

-- the last of the tags that name the edge, in either direction, gives its sharpness
abbrev pub tagged_edge : List ((ℕ × ℕ) × Sharpness) → ℕ × ℕ → Sharpness
tagged_edge creases edge = last_of Smooth (map (λ crease. crease.1) (filter (λ crease. same_edge edge crease.0) creases))

-- the last of the tags that name the vertex gives its sharpness
abbrev pub tagged_vertex : List (ℕ × Sharpness) → ℕ → Sharpness
tagged_vertex corner_tags v = last_of Smooth (map (λ tag. tag.1) (filter (λ tag. nat_eq v tag.0) corner_tags))

-- a boundary edge is infinitely sharp, whatever its tags
abbrev pub base_edge_sharpness : ObjMesh → ℕ × ℕ → Sharpness
base_edge_sharpness mesh edge = if is_boundary mesh.faces edge then Infinite else tagged_edge mesh.creases edge

-- the mode makes the vertex infinitely sharp, because only one face has it
abbrev pub is_end_corner : Boundary → List Polygon → ℕ → Bool
is_end_corner Hidden polygons v = false
is_end_corner EdgeOnly polygons v = false
is_end_corner EdgeAndCorner polygons v = nat_eq (length (faces_of_point polygons v)) 1

-- the sharpness of a vertex at level 0: infinite for a corner of the mode, otherwise from its tags
abbrev pub base_vertex_sharpness : ObjMesh → ℕ → Sharpness
base_vertex_sharpness mesh v = if is_end_corner mesh.boundary mesh.faces v then Infinite else tagged_vertex mesh.corner_tags v

-- the point is an end of a boundary edge
abbrev pub is_at_boundary : List Polygon → ℕ → Bool
is_at_boundary polygons v = list_any (λ edge. is_boundary polygons edge && has_end v edge) (edges_of polygons)

-- the mode hides the face, because it has a point at the boundary
abbrev pub is_hidden : Boundary → List Polygon → Polygon → Bool
is_hidden Hidden polygons polygon = list_any (is_at_boundary polygons) polygon
is_hidden EdgeOnly polygons polygon = false
is_hidden EdgeAndCorner polygons polygon = false

-- a face is a hole if a tag names it or the mode hides it
abbrev pub is_base_hole : ObjMesh → ℕ × Polygon → Bool
is_base_hole mesh face = is_among mesh.holes face.0 || is_hidden mesh.boundary mesh.faces face.1

-- level 0 of a mesh; tags that name no edge, or the same vertex at both ends, have no effect
abbrev pub base_level : ObjMesh → Level
base_level mesh = record {
  point_count = length mesh.points;
  polygons = mesh.faces;
  holes = map (is_base_hole mesh) (enumerate_from 0 mesh.faces);
  edge_sharpness = map (base_edge_sharpness mesh) (edges_of mesh.faces);
  vertex_sharpness = map (base_vertex_sharpness mesh) (range_with_len 0 (length mesh.points));
  method = mesh.method;
}
