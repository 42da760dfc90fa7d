-- The lines of a map.
use Rattle.std.specs.Prelude.{ℕ, ◌≡◌, ◌<◌, List, [], ◌∷◌, length, map, zip, codes}
use Rattle.std.specs.List.{flat_map}
use Rattle.subdiv_model.specs.Fractions.{lowest}
use Rattle.subdiv_model.specs.NumberText.{number_text, ratio_text}
use Rattle.subdiv_model.specs.Leaf.{Location, grid_pairs, leaf_line}
use Rattle.patch_map.specs.View.{location_of}
use Rattle.far_text.specs.declared.map.MapLeaves.{MapLeaves}

-- the position of a place on its leaf
abbrev pub position_words : ℕ → ℕ × ℕ → List (List ℕ)
position_words grid position = codes "at" ∷ ratio_text (lowest (position.0, grid)) ∷ ratio_text (lowest (position.1, grid)) ∷ []

-- a leaf and the position of a place on it
abbrev pub leaf_words : ℕ → Location → List (List ℕ)
leaf_words grid leaf =
    codes "level" ∷ number_text leaf.level
    ∷ codes "face" ∷ number_text leaf.number
    ∷ codes "corner" ∷ number_text leaf.corner
    ∷ position_words grid (leaf.s, leaf.t)

-- the line of a place with its leaf
abbrev pub placed_leaf_line : ℕ → (ℕ × ℕ) × Location → List ℕ
placed_leaf_line grid placed = leaf_line grid placed.0 placed.1

-- the lines of all places of a grid with their leaves, row by row
abbrev pub map_lines : MapLeaves → List ℕ
map_lines leaves = flat_map (placed_leaf_line leaves.grid) (zip (grid_pairs leaves.grid) (map location_of leaves.leaves.items))

-- the grid has at least one step, and each place has a leaf
pub record CanMapBePut (leaves : MapLeaves) : Type 0 where
  pub positive : 0 < leaves.grid
  pub each : length leaves.leaves.items ≡ length (grid_pairs leaves.grid)
