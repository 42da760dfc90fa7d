-- The mesh that an OBJ text describes, before it is judged as a mesh.
-- Source: Drillolive.
use Rattle.std.specs.Prelude.{ℕ, ℤ, Bool, ◌&&◌, nat_lt, List, length}
use Rattle.std.specs.List.{list_all}
use Rattle.subdiv_model.specs.Polygons.{Polygon, is_over}
use Rattle.subdiv_model.specs.Sharpness.{Sharpness, Method}
use Rattle.subdiv_model.specs.Boundary.{Boundary}

-- The mesh counts points, faces and texture values from 0. Creases, corner tags and holes are in the order of the text, repeated
-- ones included.
pub record ObjMesh : Type 0 where
  -- whole numbers over the common denominator of the positions
  pub points : List (ℤ × ℤ × ℤ)
  pub common : ℕ
  -- whole numbers over the common denominator of the texture values
  pub texture : List (ℤ × ℤ)
  pub texture_common : ℕ
  pub faces : List Polygon
  pub has_texture : Bool
  -- with texture, the number of the texture value at each corner of each face; otherwise empty
  pub texture_corners : List Polygon
  -- two vertices and the sharpness between them
  pub creases : List ((ℕ × ℕ) × Sharpness)
  -- a vertex and its sharpness
  pub corner_tags : List (ℕ × Sharpness)
  -- numbers of faces
  pub holes : List ℕ
  pub boundary : Boundary
  pub method : Method

-- each corner of a face is a point
abbrev pub has_faces_over_points : ObjMesh → Bool
has_faces_over_points mesh = is_over (length mesh.points) mesh.faces

-- each texture corner is a texture value
abbrev pub has_corners_over_texture : ObjMesh → Bool
has_corners_over_texture mesh = is_over (length mesh.texture) mesh.texture_corners

-- both vertices of each crease are points
abbrev pub has_creases_over_points : ObjMesh → Bool
has_creases_over_points mesh =
    list_all (λ crease. nat_lt crease.0.0 (length mesh.points) && nat_lt crease.0.1 (length mesh.points)) mesh.creases

-- the vertex of each corner tag is a point
abbrev pub has_corner_tags_over_points : ObjMesh → Bool
has_corner_tags_over_points mesh = list_all (λ tag. nat_lt tag.0 (length mesh.points)) mesh.corner_tags

-- each hole is a face
abbrev pub has_holes_over_faces : ObjMesh → Bool
has_holes_over_faces mesh = list_all (λ face. nat_lt face (length mesh.faces)) mesh.holes
