-- The cut mesh of a texture channel: the faces of the mesh, over points that seams divide.
-- Source: Drillolive; the words are those of OpenSubdiv's face-varying channels.
use Rattle.std.specs.Prelude.{ℕ, zero, suc, ℤ, pos, Bool, false, not, ◌&&◌, ◌||◌, nat_eq, List, [], ◌∷◌, length, map, get_or, if◌then◌else◌}
use Rattle.std.specs.List.{filter, list_any, flat_map, position_or_len, range_with_len, enumerate_from}
use Rattle.subdiv_model.specs.Lists.{each_once_by}
use Rattle.subdiv_model.specs.Polygons.{Polygon, polygon_at, same_side, has_edge}
use Rattle.subdiv_model.specs.Edges.{edges_of, faces_of_edge, faces_of_point, edges_of_point, is_boundary}
use Rattle.subdiv_model.specs.Sharpness.{Sharpness, Infinite}
use Rattle.subdiv_model.specs.Level.{Level, edge_sharpness_of, vertex_sharpness_of}
use Rattle.subdiv_model.specs.ObjMesh.{ObjMesh}
use Rattle.subdiv_model.specs.Base.{base_level, is_at_boundary}

-- which points of the cut mesh stay sharp
pub data SeamMode : Type 0 where
  -- only those that are sharp in the mesh
  SmoothSeams : SeamMode
  -- also the points of one face
  CornerSeams : SeamMode
  -- also all points on the boundary of the cut mesh
  BoundarySeams : SeamMode

-- the number of the texture value that a face has at a vertex
abbrev pub texture_number : ObjMesh → ℕ → ℕ → ℕ
texture_number mesh face v = get_or (polygon_at mesh.texture_corners face) (position_or_len (nat_eq v) (polygon_at mesh.faces face)) 0

-- the texture numbers of two faces differ at a vertex
abbrev pub differ_at : ObjMesh → ℕ → ℕ → ℕ → Bool
differ_at mesh f g v = not (nat_eq (texture_number mesh f v) (texture_number mesh g v))

-- the edge has two faces, whose texture numbers differ at one end or at both
abbrev pub is_seam_of : ObjMesh → ℕ × ℕ → List ℕ → Bool
is_seam_of mesh edge [] = false
is_seam_of mesh edge (f ∷ []) = false
is_seam_of mesh edge (f ∷ (g ∷ faces)) = differ_at mesh f g edge.0 || differ_at mesh f g edge.1

-- the edge is a seam
abbrev pub is_seam : ObjMesh → ℕ × ℕ → Bool
is_seam mesh edge = is_seam_of mesh edge (faces_of_edge mesh.faces edge)

-- the edges at a vertex that are no seams
abbrev pub joining_edges : ObjMesh → ℕ → List (ℕ × ℕ)
joining_edges mesh v = filter (λ edge. not (is_seam mesh edge)) (edges_of_point mesh.faces v)

-- two faces share one of the edges
abbrev pub share_edge : List Polygon → List (ℕ × ℕ) → ℕ → ℕ → Bool
share_edge polygons edges f g = list_any (λ edge. has_edge edge (polygon_at polygons f) && has_edge edge (polygon_at polygons g)) edges

-- the faces at a vertex that were reached, or share one of the edges with a face that was reached
abbrev pub reached_next : List Polygon → List (ℕ × ℕ) → List ℕ → List ℕ → List ℕ
reached_next polygons edges faces reached = filter (λ g. list_any (λ f. nat_eq f g || share_edge polygons edges f g) reached) faces

-- the faces reached after a number of steps
abbrev pub reached_after : ℕ → List Polygon → List (ℕ × ℕ) → List ℕ → List ℕ → List ℕ
reached_after zero polygons edges faces reached = reached
reached_after (suc steps) polygons edges faces reached = reached_after steps polygons edges faces (reached_next polygons edges faces reached)

-- the faces joined to a face at a vertex, ascending, with the face itself; as many steps as faces are enough
abbrev pub joined_among : List Polygon → List (ℕ × ℕ) → List ℕ → ℕ → List ℕ
joined_among polygons edges faces face = reached_after (length faces) polygons edges faces (face ∷ [])

-- the faces joined to a face at a vertex, ascending, with the face itself
abbrev pub joined_faces : ObjMesh → ℕ → ℕ → List ℕ
joined_faces mesh v face = joined_among mesh.faces (joining_edges mesh v) (faces_of_point mesh.faces v) face

-- a channel point is a vertex and the least of the faces joined there
abbrev pub channel_point : ObjMesh → ℕ → ℕ → ℕ × ℕ
channel_point mesh face v = (v, get_or (joined_faces mesh v face) 0 face)

-- the channel points, by first appearance over faces and corners
abbrev pub channel_points : ObjMesh → List (ℕ × ℕ)
channel_points mesh =
    each_once_by same_side (flat_map (λ face. map (channel_point mesh face.0) face.1) (enumerate_from 0 mesh.faces))

-- the number of the channel point of a face at a vertex
abbrev pub channel_number : ObjMesh → List (ℕ × ℕ) → ℕ → ℕ → ℕ
channel_number mesh points face v = position_or_len (same_side (channel_point mesh face v)) points

-- the polygons of the cut mesh, over the numbers of its channel points
abbrev pub cut_polygons : ObjMesh → List (ℕ × ℕ) → List Polygon
cut_polygons mesh points = map (λ face. map (channel_number mesh points face.0) face.1) (enumerate_from 0 mesh.faces)

-- the texture value of each channel point
abbrev pub channel_values : ObjMesh → List (ℤ × ℤ)
channel_values mesh = map (λ point. get_or mesh.texture (texture_number mesh point.1 point.0) (pos 0, pos 0)) (channel_points mesh)

-- the vertex of a channel point
abbrev pub channel_vertex : List (ℕ × ℕ) → ℕ → ℕ
channel_vertex points p = (get_or points p (0, 0)).0

-- a boundary edge of the cut mesh is infinitely sharp, and any other edge is as sharp as its edge in the mesh
abbrev pub cut_edge_sharpness : Level → List (ℕ × ℕ) → List Polygon → ℕ × ℕ → Sharpness
cut_edge_sharpness base points polygons edge =
    if is_boundary polygons edge then Infinite else edge_sharpness_of base (channel_vertex points edge.0, channel_vertex points edge.1)

-- the mode keeps the point sharp
abbrev pub stays_sharp : SeamMode → List Polygon → ℕ → Bool
stays_sharp SmoothSeams polygons p = false
stays_sharp CornerSeams polygons p = nat_eq (length (faces_of_point polygons p)) 1
stays_sharp BoundarySeams polygons p = is_at_boundary polygons p

-- the sharpness of a point of the cut mesh: infinite if the mode keeps it sharp, otherwise that of its vertex
abbrev pub cut_vertex_sharpness : SeamMode → Level → List (ℕ × ℕ) → List Polygon → ℕ → Sharpness
cut_vertex_sharpness mode base points polygons p =
    if stays_sharp mode polygons p then Infinite else vertex_sharpness_of base (channel_vertex points p)

-- level 0 of the cut mesh, made of its points and polygons and of level 0 of the mesh
abbrev pub cut_level_of : SeamMode → Level → List (ℕ × ℕ) → List Polygon → Level
cut_level_of mode base points polygons = record {
  point_count = length points;
  polygons = polygons;
  holes = base.holes;
  edge_sharpness = map (cut_edge_sharpness base points polygons) (edges_of polygons);
  vertex_sharpness = map (cut_vertex_sharpness mode base points polygons) (range_with_len 0 (length points));
  method = base.method;
}

-- level 0 of the cut mesh, from its channel points
abbrev pub cut_level_over : SeamMode → ObjMesh → List (ℕ × ℕ) → Level
cut_level_over mode mesh points = cut_level_of mode (base_level mesh) points (cut_polygons mesh points)

-- level 0 of the cut mesh
abbrev pub cut_level : SeamMode → ObjMesh → Level
cut_level mode mesh = cut_level_over mode mesh (channel_points mesh)
