-- Sparse levels of a texture: their selected faces are those of the mesh.
-- Source: Drillolive.
use Rattle.std.specs.Prelude.{ℕ, ◌+◌, pos, nat_eq, List, [], ◌∷◌, ◌++◌, length, map, get_or, Option, Some, None, option_map, codes}
use Rattle.std.specs.List.{find, flat_map, range_with_len, zip}
use Rattle.subdiv_model.specs.Polygons.{Polygon}
use Rattle.subdiv_model.specs.Value.{Value, whole_value}
use Rattle.subdiv_model.specs.Level.{Level}
use Rattle.subdiv_model.specs.NumberText.{number_text}
use Rattle.subdiv_model.specs.Refined.{Point}
use Rattle.subdiv_model.specs.Text.{corner_text, line_text, point_line, texture_line}
use Rattle.subdiv_model.specs.Sparse.{FacePredicate, selected}
use Rattle.subdiv_model.specs.SparseText.{WrittenFace, WrittenLevel, kind_text, points_with, written_level, written_points}

-- the predicate of the faces that are selected at each level, for a number of levels
abbrev pub selected_to : Level → FacePredicate → ℕ → FacePredicate
selected_to base predicate depth = map (selected base predicate) (range_with_len 0 depth)

-- the corners of the face of this number, if the level has it
abbrev pub corners_of_face : WrittenLevel → ℕ → Option Polygon
corners_of_face level number = option_map (λ face. face.corners) (find (λ face. nat_eq number face.number) level.faces)

-- the words of the corners, each with its texture point if the texture has the face
abbrev pub corner_words : Polygon → Option Polygon → List (List ℕ)
corner_words corners None = map (λ corner. number_text (corner + 1)) corners
corner_words corners (Some texture) = map corner_text (zip corners texture)

-- the line of a face, if the texture has this level
abbrev pub textured_sparse_line : WrittenLevel → WrittenFace → List ℕ
textured_sparse_line texture face =
    line_text (codes "f") (kind_text face.kind ∷ number_text face.number ∷ corner_words face.corners (corners_of_face texture face.number))

-- the line with the counts of a level and of its texture
abbrev pub textured_level_line : ℕ → WrittenLevel → WrittenLevel → List ℕ
textured_level_line depth level texture =
    line_text (codes "level")
    (number_text depth
    ∷ codes "points" ∷ number_text level.point_count
    ∷ codes "faces" ∷ number_text (length level.faces)
    ∷ codes "texture" ∷ number_text texture.point_count
    ∷ [])

-- a sparse level as it is written, and the values of the written points
pub record SparsePart (V : Type 0) : Type 0 where
  pub level : WrittenLevel
  pub values : List V

-- the text of a level: its counts, its points, its texture points, and its faces
abbrev pub textured_level_text : Option ℕ → ℕ → SparsePart Point → SparsePart (Value × Value) → List ℕ
textured_level_text decimals depth points texture =
    textured_level_line depth points.level texture.level
    ++ (flat_map (point_line decimals) points.values
    ++ (flat_map (texture_line decimals) texture.values
    ++ flat_map (textured_sparse_line texture.level) points.level.faces))

-- the texture points of a level that have these numbers
abbrev pub texture_with : List (Value × Value) → List ℕ → List (Value × Value)
texture_with values numbers = map (λ p. get_or values p (whole_value (pos 0), whole_value (pos 0))) numbers

-- sparse levels: the first level, the predicate of the selected faces, and the values of each uniform level
pub record SparseTrack (V : Type 0) : Type 0 where
  pub base : Level
  pub predicate : FacePredicate
  pub values : ℕ → List V

-- the written level of a track of points, with its points
abbrev pub points_part : SparseTrack Point → ℕ → SparsePart Point
points_part track k = record {
  level = written_level track.base track.predicate k;
  values = points_with (track.values k) (written_points track.base track.predicate k);
}

-- the written level of a track of texture values, with its texture points
abbrev pub texture_part : SparseTrack (Value × Value) → ℕ → SparsePart (Value × Value)
texture_part track k = record {
  level = written_level track.base track.predicate k;
  values = texture_with (track.values k) (written_points track.base track.predicate k);
}

-- the text of the levels from 0 to the depth, each with its points and its texture points
abbrev pub textured_sparse_text : Option ℕ → SparseTrack Point → SparseTrack (Value × Value) → ℕ → List ℕ
textured_sparse_text decimals points texture depth =
    flat_map (λ k. textured_level_text decimals k (points_part points k) (texture_part texture k)) (range_with_len 0 (depth + 1))
