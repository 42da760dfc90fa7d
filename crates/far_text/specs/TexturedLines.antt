-- The lines of sparse levels with their texture.
use Rattle.std.specs.Prelude.{ℕ, ◌≡◌, ◌<◌, ◌≤◌, nat_le, List, ◌∷◌, length, map, zip, get_or, codes, Option, IfSome}
use Rattle.std.specs.List.{All, flat_map, enumerate_from, position_or_len}
use Rattle.std.specs.List.Sorted.{IsStrictlyIncreasing}
use Rattle.subdiv_model.specs.Polygons.{Polygon}
use Rattle.subdiv_model.specs.Value.{Value}
use Rattle.subdiv_model.specs.Refined.{Point}
use Rattle.subdiv_model.specs.NumberText.{number_text}
use Rattle.subdiv_model.specs.Text.{line_text}
use Rattle.subdiv_model.specs.SparseText.{WrittenFace, WrittenLevel, kind_text}
use Rattle.subdiv_model.specs.SparseTexture.{SparsePart, corner_words, corners_of_face, textured_level_text}
use Rattle.ratio128.specs.declared.point.Point2.{Point2}
use Rattle.ratio128.specs.declared.point.Point3.{Point3}
use Rattle.sparse_level.specs.declared.values.SparseValues.{SparseValues}
use Rattle.far_text.specs.Points.{CanBeWritten, points_of}
use Rattle.far_text.specs.Texture.{CanTextureBeWritten, texture_points_of}
use Rattle.far_text.specs.declared.textured_sparse.TexturedSparse.{TexturedSparse}

-- words, each after one space
abbrev pub spaced : List (List ℕ) → List ℕ
spaced words = flat_map (λ word. 32 ∷ word) words

-- the line of a face with these texture points
abbrev pub sparse_line_with : WrittenFace → Option Polygon → List ℕ
sparse_line_with face texture = line_text (codes "f") (kind_text face.kind ∷ number_text face.number ∷ corner_words face.corners texture)

-- the place of the first face whose number is not below this one, or the number of faces if none is
abbrev pub place_in : WrittenLevel → ℕ → ℕ
place_in level number = position_or_len (λ face. nat_le number face.number) level.faces

-- a level with its values over a common denominator, of the points and of the texture
abbrev pub points_part_over : ℕ → SparseValues Point3 → SparsePart Point
points_part_over common level = record { level = level.faces; values = points_of common level.values.items }

-- a level of texture with its values over a common denominator
abbrev pub texture_part_over : ℕ → SparseValues Point2 → SparsePart (Value × Value)
texture_part_over common level = record { level = level.faces; values = texture_points_of common level.values.items }

-- the lines of a numbered level with its texture
abbrev pub numbered_parts : Option ℕ → ℕ × (SparsePart Point × SparsePart (Value × Value)) → List ℕ
numbered_parts decimals level = textured_level_text decimals level.0 level.1.0 level.1.1

-- the levels from 0 on, each with its texture
abbrev pub level_parts : TexturedSparse → List (SparsePart Point × SparsePart (Value × Value))
level_parts sparse =
    zip (map (points_part_over sparse.mesh.common) sparse.mesh.levels.items) (map (texture_part_over sparse.texture.common) sparse.texture.levels.items)

-- the text of sparse levels with texture
abbrev pub textured_text : TexturedSparse → List ℕ
textured_text sparse = flat_map (numbered_parts sparse.mesh.decimals) (enumerate_from 0 (level_parts sparse))

-- the faces of a level and of its texture ascend by number, and a face that both have has as many corners in both
pub record AreFacesAlike (level texture : WrittenLevel) : Type 0 where
  pub ascending : IsStrictlyIncreasing (map (λ face. face.number) level.faces)
  pub texture_ascending : IsStrictlyIncreasing (map (λ face. face.number) texture.faces)
  pub alike : All (λ face. IfSome (corners_of_face texture face.number) (λ points. length points ≡ length face.corners)) level.faces

-- all numbers of a level and its texture can be written, and their faces are alike
pub record CanLevelBePut (common texture_common : ℕ) (level : SparseValues Point3) (texture : SparseValues Point2) : Type 0 where
  pub written : All (CanBeWritten common) level.values.items
  pub texture_written : All (CanTextureBeWritten texture_common) texture.values.items
  pub faces : AreFacesAlike level.faces texture.faces

-- the texture has the same number of levels, each level can be put with its texture, and there are at most 18 decimals
pub record CanTexturedBePut (sparse : TexturedSparse) : Type 0 where
  pub as_many : length sparse.texture.levels.items ≡ length sparse.mesh.levels.items
  pub each : (k : ℕ) (level : SparseValues Point3) (texture : SparseValues Point2) → k < length sparse.mesh.levels.items
      → CanLevelBePut sparse.mesh.common sparse.texture.common (get_or sparse.mesh.levels.items k level) (get_or sparse.texture.levels.items k texture)
  pub decimals : IfSome sparse.mesh.decimals (λ digits. digits ≤ 18)
