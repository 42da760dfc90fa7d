-- The maps of contracts, and how they grow.
use Rattle.std.specs.Prelude.{ℕ, ◌*◌, ◌<◌, ◌≤◌, Bool, false, nat_le, List, [], ◌∷◌, ◌++◌, length, map, get_or, Option, Some, None, if◌then◌else◌}
use Rattle.std.specs.List.{position_or_len, range_with_len}
use Rattle.subdiv_model.specs.Polygons.{Polygon}
use Rattle.subdiv_model.specs.Sparse.{child_number}

-- a level after level 0
pub record MapLevel : Type 0 where
  -- the number of steps from level 0
  pub depth : ℕ
  -- for each face of the level before, the place of its first child, if the face is selected
  pub firsts : List (Option ℕ)
  -- the number of each face in the uniform level
  pub numbers : List ℕ

-- a level of a map from its parts
abbrev pub map_level : ℕ → List (Option ℕ) → List ℕ → MapLevel
map_level depth firsts numbers = record { depth = depth; firsts = firsts; numbers = numbers }

-- a map: the sizes of the faces of level 0, the first children of the last level, and the levels after level 0
pub record LevelMap : Type 0 where
  -- the number of corners of each face of level 0
  pub sizes : List ℕ
  -- the number, in the next uniform level, of the first child of each face of the last level
  pub starts : List ℕ
  pub levels : List MapLevel

-- a map from its parts
abbrev pub level_map : List ℕ → List ℕ → List MapLevel → LevelMap
level_map sizes starts levels = record { sizes = sizes; starts = starts; levels = levels }

-- the number of the first child of each of these faces of a level
abbrev pub starts_of : List Polygon → List ℕ → List ℕ
starts_of polygons faces = map (λ f. child_number polygons (f, 0)) faces

-- the map of level 0
abbrev pub map_of_base : List Polygon → LevelMap
map_of_base polygons = level_map (map length polygons) (starts_of polygons (range_with_len 0 (length polygons))) []

-- the numbers never decrease
abbrev pub Rises : List ℕ → Type 0
Rises starts = (i j : ℕ) → i ≤ j → j < length starts → get_or starts i 0 ≤ get_or starts j 0

-- the place of the first child of a face: that of the first number that is not below the start of the face's children
abbrev pub first_at : List Bool → List ℕ → List ℕ → ℕ → Option ℕ
first_at selected starts numbers f = if get_or selected f false then Some (position_or_len (nat_le (get_or starts f 0)) numbers) else None

-- the place of the first child of each face, or nothing for a face that is not selected
abbrev pub firsts_of : List Bool → List ℕ → List ℕ → List (Option ℕ)
firsts_of selected starts numbers = map (first_at selected starts numbers) (range_with_len 0 (length starts))

-- the map with one more level, which contains these numbers, after these faces of the last level are selected; each new face is a quad
abbrev pub grown : LevelMap → List Bool → ℕ → List ℕ → LevelMap
grown before selected depth numbers =
    level_map before.sizes (map (λ n. 4 * n) numbers) (before.levels ++ map_level depth (firsts_of selected before.starts numbers) numbers ∷ [])
