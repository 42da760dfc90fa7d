-- Sparse levels of small meshes, for the examples.
use Rattle.std.specs.Prelude.{ℕ, ℤ, pos, List, [], ◌∷◌, length}
use Rattle.subdiv_model.specs.Polygons.{Polygon}
use Rattle.subdiv_model.specs.Sharpness.{Infinite}
use Rattle.subdiv_model.specs.Level.{Level}
use Rattle.subdiv_model.specs.Examples.{tagged_level}
use Rattle.subdiv_model.specs.Feature.{is_feature, is_selectable}
use Rattle.subdiv_model.specs.Sparse.{FacePredicate, predicate_to, present, present_points}

-- the predicate of the features of a level to a depth
abbrev pub features : Level → ℕ → FacePredicate
features base depth = predicate_to is_feature base depth

-- the predicate of all faces of a level to a depth
abbrev pub all_faces : Level → ℕ → FacePredicate
all_faces base depth = predicate_to is_selectable base depth

-- the numbers of present points and faces at a depth, where features are selected
abbrev pub counts_at : Level → ℕ → ℕ × ℕ
counts_at base depth = (length (present_points base (features base depth) depth), length (present base (features base depth) depth))

-- three quads between two rows of points
abbrev pub quads : List Polygon
quads = (0 ∷ 1 ∷ 5 ∷ 4 ∷ []) ∷ (1 ∷ 2 ∷ 6 ∷ 5 ∷ []) ∷ (2 ∷ 3 ∷ 7 ∷ 6 ∷ []) ∷ []

-- a strip of three quads with a sharp boundary
abbrev pub strip : Level
strip = tagged_level 8 quads [] []

-- a strip of three quads with a sharp boundary and sharp corners
abbrev pub cornered_strip : Level
cornered_strip = tagged_level 8 quads [] ((0, Infinite) ∷ (3, Infinite) ∷ (4, Infinite) ∷ (7, Infinite) ∷ [])

-- a square whose corners are sharp
abbrev pub sharp_square : Level
sharp_square = tagged_level 4 ((0 ∷ 1 ∷ 2 ∷ 3 ∷ []) ∷ []) [] ((0, Infinite) ∷ (1, Infinite) ∷ (2, Infinite) ∷ (3, Infinite) ∷ [])

-- the points of the square
abbrev pub square_controls : List (ℤ × ℤ × ℤ)
square_controls = (pos 0, pos 0, pos 0) ∷ (pos 4, pos 0, pos 0) ∷ (pos 4, pos 4, pos 0) ∷ (pos 0, pos 4, pos 0) ∷ []
