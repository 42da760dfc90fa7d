-- A level written with its points and tags, and the mesh that is read from the text, for the laws of meshes.
-- Source: Drillolive.
use Rattle.std.specs.Prelude.{◌≡◌, ℕ, ◌<◌, ℤ, Bool, true, false, nat_lt, List, [], ◌++◌, length, map, None, IsTrue}
use Rattle.std.specs.List.{All, AllZip}
use Rattle.subdiv_model.specs.Polygons.{is_over}
use Rattle.subdiv_model.specs.Sharpness.{Sharpness}
use Rattle.subdiv_model.specs.Boundary.{EdgeOnly}
use Rattle.subdiv_model.specs.Level.{Level, edge_sharpness_of, vertex_sharpness_of, is_well_formed}
use Rattle.subdiv_model.specs.Value.{Value, IsSameValue}
use Rattle.subdiv_model.specs.Refined.{Point}
use Rattle.subdiv_model.specs.ObjMesh.{ObjMesh}
use Rattle.subdiv_model.specs.ReadObj.{read_obj_mesh}
use Rattle.subdiv_model.specs.Text.{mesh_text, textured_mesh_text, tags_text}
use Rattle.text_laws.specs.Laws.{value_over}
use Rattle.text_laws.specs.MeshLines.{written_edges, written_vertices, written_holes}

-- the denominators of a point are at least 1
pub record HasDenominators (point : Point) : Type 0 where
  pub x : 0 < point.0.den
  pub y : 0 < point.1.den
  pub z : 0 < point.2.den

-- the denominators of a texture value are at least 1
pub record HasTextureDenominators (value : Value × Value) : Type 0 where
  pub u : 0 < value.0.den
  pub v : 0 < value.1.den

-- a well-formed level and a point for each of its points, with denominators of at least 1
pub record WrittenMesh : Type 0 where
  pub level : Level
  pub points : List Point
  pub well_formed : IsTrue (is_well_formed level)
  pub counted : length points ≡ level.point_count
  pub positive : All HasDenominators points

-- the text of the level with its tags
abbrev pub written_text : WrittenMesh → List ℕ
written_text mesh = mesh_text None true mesh.level mesh.points ++ tags_text mesh.level

-- the mesh read from the text, over a common denominator that is a multiple of `10^least`
abbrev pub mesh_read : WrittenMesh → ℕ → ObjMesh
mesh_read mesh least = read_obj_mesh (written_text mesh) least

-- the face has a corner
abbrev pub has_corners : List ℕ → Bool
has_corners polygon = nat_lt 0 (length polygon)

-- A mesh with a cut level, whose faces have as many corners as those of the mesh, and with texture values. The corners of the cut
-- level are texture values, whose denominators are at least 1.
pub record TexturedMesh : Type 0 where
  pub mesh : WrittenMesh
  pub cut : Level
  pub texture : List (Value × Value)
  pub same_corners : map length mesh.level.polygons ≡ map length cut.polygons
  pub within : IsTrue (is_over (length texture) cut.polygons)
  pub positive : All HasTextureDenominators texture

-- the text of the level with its texture and its tags
abbrev pub textured_text : TexturedMesh → List ℕ
textured_text given =
    textured_mesh_text None true given.mesh.level given.mesh.points given.cut given.texture ++ tags_text given.mesh.level

-- the mesh read from the text with texture
abbrev pub textured_read : TexturedMesh → ℕ → ObjMesh
textured_read given least = read_obj_mesh (textured_text given) least

-- the coordinates of a point have the values of these numbers over a common denominator
pub record IsPointOver (common : ℕ) (point : Point) (numbers : ℤ × ℤ × ℤ) : Type 0 where
  pub x : IsSameValue point.0 (value_over common numbers.0)
  pub y : IsSameValue point.1 (value_over common numbers.1)
  pub z : IsSameValue point.2 (value_over common numbers.2)

-- the coordinates of a texture value have the values of these numbers over a common denominator
pub record IsTextureOver (common : ℕ) (value : Value × Value) (numbers : ℤ × ℤ) : Type 0 where
  pub u : IsSameValue value.0 (value_over common numbers.0)
  pub v : IsSameValue value.1 (value_over common numbers.1)

-- the edges that the tags list, each with its sharpness
abbrev pub written_creases : Level → List ((ℕ × ℕ) × Sharpness)
written_creases level = map (λ edge. (edge, edge_sharpness_of level edge)) (written_edges level)

-- the vertices that the tags list, each with its sharpness
abbrev pub written_corner_tags : Level → List (ℕ × Sharpness)
written_corner_tags level = map (λ v. (v, vertex_sharpness_of level v)) (written_vertices level)

-- the mesh has the points of the level over its common denominator, its faces and its tags
pub record IsReadBack (level : Level) (points : List Point) (mesh : ObjMesh) : Type 0 where
  pub above_zero : 0 < mesh.common
  pub count : length mesh.points ≡ level.point_count
  pub coordinates : AllZip (IsPointOver mesh.common) points mesh.points
  pub faces : mesh.faces ≡ level.polygons
  pub creases : mesh.creases ≡ written_creases level
  pub corner_tags : mesh.corner_tags ≡ written_corner_tags level
  pub holes : mesh.holes ≡ written_holes level
  pub boundary : mesh.boundary ≡ EdgeOnly
  pub method : mesh.method ≡ level.method

-- The mesh has the texture values over their common denominator, and the faces of the cut level as texture corners. It has texture
-- if it has a face.
pub record IsTextureReadBack (cut : Level) (texture : List (Value × Value)) (mesh : ObjMesh) : Type 0 where
  pub above_zero : 0 < mesh.texture_common
  pub count : length mesh.texture ≡ length texture
  pub values : AllZip (IsTextureOver mesh.texture_common) texture mesh.texture
  pub corners : mesh.texture_corners ≡ cut.polygons
  pub some : mesh.has_texture ≡ nat_lt 0 (length cut.polygons)

-- the mesh has no texture
pub record HasNoTexture (mesh : ObjMesh) : Type 0 where
  pub none : mesh.has_texture ≡ false
  pub values : mesh.texture ≡ []
  pub corners : mesh.texture_corners ≡ []
