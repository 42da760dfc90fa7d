-- Sparse levels as flat lists, level by level.
use Rattle.std.specs.Prelude.{ℕ, ℤ, List, ◌++◌, length, map, drop}
use Rattle.std.specs.List.{flat_map, sum_by}
use Rattle.subdiv_model.specs.SparseText.{FaceKind, HoleFace, OuterFace, SelectedFace, LeafFace, WrittenLevel}
use Rattle.ratio128.specs.declared.point.Point3.{Point3}
use Rattle.sparse_level.specs.declared.values.SparseValues.{SparseValues}
use Rattle.mesh_arrays.specs.Points.{all_numerators, all_denominators}

-- an array with these items at its front; later items are unchanged
abbrev pub with_front : {X : Type 0} → List X → List X → List X
with_front items array = items ++ drop (length items) array

-- the number of a kind of face
abbrev pub kind_number : FaceKind → ℕ
kind_number HoleFace = 0
kind_number OuterFace = 1
kind_number SelectedFace = 2
kind_number LeafFace = 3

-- the kinds of the faces of a level
abbrev pub level_kinds : WrittenLevel → List ℕ
level_kinds level = map (λ face. kind_number face.kind) level.faces

-- the numbers of the faces of a level in the uniform level
abbrev pub level_numbers : WrittenLevel → List ℕ
level_numbers level = map (λ face. face.number) level.faces

-- the number of corners of each face of a level
abbrev pub level_sizes : WrittenLevel → List ℕ
level_sizes level = map (λ face. length face.corners) level.faces

-- the corners of the faces of a level, face by face
abbrev pub level_corners : WrittenLevel → List ℕ
level_corners level = flat_map (λ face. face.corners) level.faces

-- the number of corners of all faces of a level
abbrev pub corners_in : WrittenLevel → ℕ
corners_in level = sum_by (λ face. length face.corners) level.faces

-- the number of points of a level with values, and the numbers of its faces, corners and values
abbrev pub point_count : SparseValues Point3 → ℕ
point_count level = level.faces.point_count

abbrev pub face_count : SparseValues Point3 → ℕ
face_count level = length level.faces.faces

abbrev pub corner_count : SparseValues Point3 → ℕ
corner_count level = corners_in level.faces

abbrev pub value_count : SparseValues Point3 → ℕ
value_count level = length level.values.items

-- the kinds, numbers, sizes and corners of the faces of all levels
abbrev pub kinds_of : List (SparseValues Point3) → List ℕ
kinds_of levels = flat_map (λ level. level_kinds level.faces) levels

abbrev pub numbers_of : List (SparseValues Point3) → List ℕ
numbers_of levels = flat_map (λ level. level_numbers level.faces) levels

abbrev pub sizes_of : List (SparseValues Point3) → List ℕ
sizes_of levels = flat_map (λ level. level_sizes level.faces) levels

abbrev pub corners_of : List (SparseValues Point3) → List ℕ
corners_of levels = flat_map (λ level. level_corners level.faces) levels

-- the three numerators of each point of all levels, and each denominator times the common one
abbrev pub numerators_of : List (SparseValues Point3) → List ℤ
numerators_of levels = flat_map (λ level. all_numerators level.values.items) levels

abbrev pub denominators_of : ℕ → List (SparseValues Point3) → List ℕ
denominators_of common levels = flat_map (λ level. all_denominators common level.values.items) levels
