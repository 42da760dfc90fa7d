-- Meshes whose text is read without fault.
-- Source: Drillolive.
use Rattle.std.specs.Prelude.{ℕ, ◌^◌, ◌≤◌, Bool, true, ◌&&◌, nat_lt, nat_le, List, IsTrue}
use Rattle.std.specs.List.{All, list_all}
use Rattle.subdiv_model.specs.Sharpness.{Sharpness, Smooth, Semi, Infinite}
use Rattle.subdiv_model.specs.Value.{Value}
use Rattle.subdiv_model.specs.Refined.{Point}
use Rattle.subdiv_model.specs.Short.{IsShortPoint, IsShortTexture}
use Rattle.subdiv_model.specs.ObjMesh.{ObjMesh}
use Rattle.subdiv_model.specs.Level.{Level}
use Rattle.text_laws.specs.Laws.{lowest_amount}
use Rattle.text_laws.specs.ReadMesh.{has_corners, TexturedMesh, textured_read}

-- in lowest terms both parts have at most 37 digits
abbrev pub is_short_value : Value → Bool
is_short_value value = nat_lt (lowest_amount value).0 (10 ^ 37) && nat_lt (lowest_amount value).1 (10 ^ 37)

-- each coordinate of the point is short in lowest terms
abbrev pub is_short_point : Point → Bool
is_short_point point = is_short_value point.0 && is_short_value point.1 && is_short_value point.2

-- each coordinate of the texture value is short in lowest terms
abbrev pub is_short_texture : Value × Value → Bool
is_short_texture value = is_short_value value.0 && is_short_value value.1

-- the denominator of the sharpness is at most 10^6
abbrev pub is_readable_sharpness : Sharpness → Bool
is_readable_sharpness Smooth = true
is_readable_sharpness (Semi num den) = nat_le den (10 ^ 6)
is_readable_sharpness Infinite = true

-- Each face of the level has a corner. No number is too long to be read, as it is written and over the common denominator of the
-- mesh.
pub record IsReadable (level : Level) (points : List Point) (mesh : ObjMesh) : Type 0 where
  pub corners : IsTrue (list_all has_corners level.polygons)
  pub values : IsTrue (list_all is_short_point points)
  pub edges : IsTrue (list_all is_readable_sharpness level.edge_sharpness)
  pub vertices : IsTrue (list_all is_readable_sharpness level.vertex_sharpness)
  pub common : mesh.common ≤ 10 ^ 37
  pub numbers : All IsShortPoint mesh.points

-- no texture value is too long to be read, as it is written and over the common denominator of the texture
pub record IsTextureReadable (texture : List (Value × Value)) (mesh : ObjMesh) : Type 0 where
  pub values : IsTrue (list_all is_short_texture texture)
  pub common : mesh.texture_common ≤ 10 ^ 37
  pub numbers : All IsShortTexture mesh.texture

-- no number of a mesh with texture is too long to be read
pub record IsTexturedReadable (given : TexturedMesh) (least : ℕ) : Type 0 where
  pub mesh : IsReadable given.mesh.level given.mesh.points (textured_read given least)
  pub texture : IsTextureReadable given.texture (textured_read given least)
