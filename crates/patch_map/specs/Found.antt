-- The leaf that a map finds.
use Rattle.std.specs.Prelude.{ℕ, ◌+◌, Bool, true, nat_eq, List, [], ◌∷◌, get_or, None, if◌then◌else◌}
use Rattle.std.specs.Option.{option_map_or}
use Rattle.subdiv_model.specs.Leaf.{Location, in_child}
use Rattle.leaf_laws.specs.FirstLeaf.{first_with}
use Rattle.patch_map.specs.Map.{MapLevel, LevelMap}

-- the corner whose child contains the location
abbrev pub corner_in : ℕ → Bool → Location → ℕ
corner_in grid is_quad at = if is_quad then first_with grid (at.s, at.t) else at.corner

-- the location within the child that contains it
abbrev pub pair_in : ℕ → Bool → Location → ℕ × ℕ
pair_in grid is_quad at = if is_quad then in_child grid (at.s, at.t) (first_with grid (at.s, at.t)) else (at.s, at.t)

-- a pair on the face at a place of a level
abbrev pub face_at : MapLevel → ℕ → ℕ × ℕ → Location
face_at level place pair = record { level = level.depth; number = get_or level.numbers place 0; corner = 0; s = pair.0; t = pair.1 }

-- the leaf of a location on a face of the level before these
abbrev pub leaf_below : ℕ → List MapLevel → Bool → ℕ → Location → Location
leaf_below grid [] is_quad place at = at
leaf_below grid (level ∷ levels) is_quad place at =
    option_map_or
    (λ first. leaf_below grid levels true (first + corner_in grid is_quad at) (face_at level (first + corner_in grid is_quad at) (pair_in grid is_quad at)))
    (get_or level.firsts place None)
    at

-- the leaf of a location on a face of level 0
abbrev pub leaf_in : LevelMap → ℕ → Location → Location
leaf_in levels grid at = leaf_below grid levels.levels (nat_eq (get_or levels.sizes at.number 0) 4) at.number at
