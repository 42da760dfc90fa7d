-- The text of a refined mesh with its texture, and the conditions for putting it.
use Rattle.std.specs.Prelude.{ℕ, ◌≡◌, ◌≤◌, Bool, false, true, List, [], ◌++◌, length, map, Option, Some, None, IfSome}
use Rattle.std.specs.List.{All}
use Rattle.subdiv_model.specs.Level.{Level}
use Rattle.subdiv_model.specs.Text.{mesh_text, textured_mesh_text, tags_text}
use Rattle.far_text.specs.Points.{points_of, CanBeWritten}
use Rattle.far_text.specs.Texture.{texture_points_of, CanTextureBeWritten}
use Rattle.far_text.specs.declared.mesh.MeshForm.{MeshForm}
use Rattle.far_text.specs.declared.mesh.RefinedMesh.{RefinedMesh}
use Rattle.far_text.specs.declared.mesh.RefinedTexture.{RefinedTexture}

-- the lines of the points and of the faces
abbrev pub plain_lines : RefinedMesh → MeshForm → List ℕ
plain_lines mesh form = mesh_text form.decimals form.tags mesh.level.level (points_of mesh.common mesh.values.items)

-- the lines of the points, of the texture points and of the faces
abbrev pub textured_lines : RefinedMesh → RefinedTexture → MeshForm → List ℕ
textured_lines mesh texture form =
    textured_mesh_text form.decimals form.tags mesh.level.level (points_of mesh.common mesh.values.items)
    texture.level.level (texture_points_of texture.common texture.values.items)

-- the lines of a mesh with its texture, if it has one
abbrev pub lines_of : Option RefinedTexture → RefinedMesh → MeshForm → List ℕ
lines_of None mesh form = plain_lines mesh form
lines_of (Some texture) mesh form = textured_lines mesh texture form

-- the lines of the tags, if the text has them
abbrev pub tag_lines : Bool → Level → List ℕ
tag_lines false level = []
tag_lines true level = tags_text level

-- the text of a refined mesh in a form
abbrev pub refined_text : RefinedMesh → MeshForm → List ℕ
refined_text mesh form = lines_of mesh.texture mesh form ++ tag_lines form.tags mesh.level.level

-- all numbers of the texture can be written, and its faces have as many corners as those of the level
pub record CanTextureBePut (level : Level) (texture : RefinedTexture) : Type 0 where
  pub written : All (CanTextureBeWritten texture.common) texture.values.items
  pub alike : map length texture.level.level.polygons ≡ map length level.polygons

-- all numbers can be written, and there are at most 18 decimals
pub record CanBePut (mesh : RefinedMesh) (form : MeshForm) : Type 0 where
  pub written : All (CanBeWritten mesh.common) mesh.values.items
  pub texture : IfSome mesh.texture (CanTextureBePut mesh.level.level)
  pub decimals : IfSome form.decimals (λ digits. digits ≤ 18)
