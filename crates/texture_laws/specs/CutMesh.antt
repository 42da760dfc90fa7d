-- The faces, points and sharpness of the cut mesh of a mesh.
use Rattle.std.specs.Prelude.{ℕ, ◌<◌, Bool, List, length, get_or, IsTrue}
use Rattle.std.specs.List.{All}
use Rattle.subdiv_model.specs.Polygons.{Polygon, polygon_at}
use Rattle.subdiv_model.specs.Manifold.{is_simple}
use Rattle.subdiv_model.specs.Sharpness.{Sharpness}
use Rattle.subdiv_model.specs.Level.{edge_sharpness_of, vertex_sharpness_of}
use Rattle.subdiv_model.specs.ObjMesh.{ObjMesh}
use Rattle.subdiv_model.specs.Base.{base_level}
use Rattle.subdiv_model.specs.Cut.{SeamMode, channel_points, channel_number, channel_vertex, cut_polygons, stays_sharp}

-- the faces of the cut mesh, over its points
abbrev pub cut_faces : ObjMesh → List Polygon
cut_faces mesh = cut_polygons mesh (channel_points mesh)

-- the number of points of the cut mesh
abbrev pub cut_point_count : ObjMesh → ℕ
cut_point_count mesh = length (channel_points mesh)

-- the number at a corner of a face, by the number of the face and its place in the face
abbrev pub corner_at : List Polygon → ℕ → ℕ → ℕ
corner_at faces face corner = get_or (polygon_at faces face) corner 0

-- each face is simple
abbrev pub AreSimple : List Polygon → Type 0
AreSimple faces = All (λ polygon. IsTrue (is_simple polygon)) faces

-- the point of the cut mesh that a face has at a vertex
abbrev pub point_of : ObjMesh → ℕ → ℕ → ℕ
point_of mesh = channel_number mesh (channel_points mesh)

-- the vertex of a point of the cut mesh
abbrev pub vertex_of : ObjMesh → ℕ → ℕ
vertex_of mesh = channel_vertex (channel_points mesh)

-- the vertices of two points of the cut mesh
abbrev pub vertices_of : ObjMesh → ℕ × ℕ → ℕ × ℕ
vertices_of mesh edge = (vertex_of mesh edge.0, vertex_of mesh edge.1)

-- the sharpness that the vertex of a point has in the mesh
abbrev pub sharpness_in_mesh : ObjMesh → ℕ → Sharpness
sharpness_in_mesh mesh p = vertex_sharpness_of (base_level mesh) (vertex_of mesh p)

-- the sharpness that the vertices of two points have as an edge of the mesh
abbrev pub edge_sharpness_in_mesh : ObjMesh → ℕ × ℕ → Sharpness
edge_sharpness_in_mesh mesh edge = edge_sharpness_of (base_level mesh) (vertices_of mesh edge)

-- the mode keeps a point of the cut mesh sharp
abbrev pub is_kept_sharp : SeamMode → ObjMesh → ℕ → Bool
is_kept_sharp mode mesh p = stays_sharp mode (cut_faces mesh) p

-- both numbers are points of the cut mesh
pub record AreCutPoints (mesh : ObjMesh) (p q : ℕ) : Type 0 where
  pub first : p < cut_point_count mesh
  pub second : q < cut_point_count mesh
