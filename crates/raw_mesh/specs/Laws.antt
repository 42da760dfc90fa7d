-- The bounds of the numbers of every mesh.
-- Source: this profile.
use Rattle.std.specs.Prelude.{◌≡◌, ◌<◌, ◌≤◌, ◌^◌, true, length, map}
use Rattle.std.specs.List.{All, sum_by}
use Rattle.subdiv_model.specs.ObjMesh.{ObjMesh}
use Rattle.subdiv_model.specs.Short.{IsShortPoint, IsShortTexture}

-- Each common denominator is from 1 to 10^37, and each numerator is below 10^37 in amount. Each face and tag names items that exist, and
-- each corner of a mesh with texture has a texture value.
pub record IsWithin (mesh : ObjMesh) : Type 0 where
  pub common : 0 < mesh.common
  pub common_short : mesh.common ≤ 10 ^ 37
  pub texture_common : 0 < mesh.texture_common
  pub texture_common_short : mesh.texture_common ≤ 10 ^ 37
  pub points : All IsShortPoint mesh.points
  pub texture : All IsShortTexture mesh.texture
  pub faces : All (λ face. All (λ v. v < length mesh.points) face) mesh.faces
  pub texture_corners : All (λ face. All (λ t. t < length mesh.texture) face) mesh.texture_corners
  pub textured : mesh.has_texture ≡ true → map length mesh.texture_corners ≡ map length mesh.faces
  pub creases : All (λ crease. (crease.0.0 < length mesh.points) × (crease.0.1 < length mesh.points)) mesh.creases
  pub corner_tags : All (λ tag. tag.0 < length mesh.points) mesh.corner_tags
  pub holes : All (λ face. face < length mesh.faces) mesh.holes
  -- each corner takes at least two bytes of a text
  pub few_corners : sum_by length mesh.faces < 2 ^ 27
