-- Places of the faces of level 0, and the leaves of the sparse levels that contain them.
-- Source: OpenSubdiv's Far layer for maps from a place of a face to its patch; which leaf has a place is Drillolive's.
use Rattle.std.specs.Prelude.{ℕ, zero, suc, ◌+◌, ◌-◌, ◌*◌, Bool, not, ◌&&◌, nat_eq, nat_lt, nat_le, List, [], ◌∷◌, ◌++◌, length, map, get_or, codes, if◌then◌else◌}
use Rattle.std.specs.List.{filter, flat_map, range_with_len}
use Rattle.subdiv_model.specs.Polygons.{polygon_at, is_among}
use Rattle.subdiv_model.specs.Level.{Level, is_hole}
use Rattle.subdiv_model.specs.Child.{refined_level}
use Rattle.subdiv_model.specs.Sparse.{FacePredicate, child_number, selected}
use Rattle.subdiv_model.specs.Fault.{Fault, Place, NoFace, NoCorner, IsHole}
use Rattle.subdiv_model.specs.Channel.{fault_where}
use Rattle.subdiv_model.specs.Fractions.{lowest}
use Rattle.subdiv_model.specs.NumberText.{number_text, ratio_text}
use Rattle.subdiv_model.specs.Text.{line_text}

-- A place of a face: the pair s and t counts steps of a grid. On a quad s goes from corner 0 towards corner 1, and t from corner
-- 0 towards corner 3, and the corner is 0. On another face the pair is a place of the child face of the corner.
pub record Location : Type 0 where
  -- the level, and the number of the face in it
  pub level : ℕ
  pub number : ℕ
  pub corner : ℕ
  pub s : ℕ
  pub t : ℕ

-- the place in a quad of a place in its child, over twice as many steps
abbrev pub in_quad : ℕ → ℕ → ℕ × ℕ → ℕ × ℕ
in_quad grid zero pair = (pair.0, pair.1)
in_quad grid (suc zero) pair = (2 * grid - pair.1, pair.0)
in_quad grid (suc (suc zero)) pair = (2 * grid - pair.0, 2 * grid - pair.1)
in_quad grid (suc (suc (suc c))) pair = (pair.1, 2 * grid - pair.0)

-- the closed square of a child contains the place of the quad
abbrev pub has_pair : ℕ → ℕ × ℕ → ℕ → Bool
has_pair grid pair zero = nat_le (2 * pair.0) grid && nat_le (2 * pair.1) grid
has_pair grid pair (suc zero) = nat_le grid (2 * pair.0) && nat_le (2 * pair.1) grid
has_pair grid pair (suc (suc zero)) = nat_le grid (2 * pair.0) && nat_le grid (2 * pair.1)
has_pair grid pair (suc (suc (suc c))) = nat_le (2 * pair.0) grid && nat_le grid (2 * pair.1)

-- the place in a child whose closed square contains the place of the quad
abbrev pub in_child : ℕ → ℕ × ℕ → ℕ → ℕ × ℕ
in_child grid pair zero = (2 * pair.0, 2 * pair.1)
in_child grid pair (suc zero) = (2 * pair.1, 2 * (grid - pair.0))
in_child grid pair (suc (suc zero)) = (2 * (grid - pair.0), 2 * (grid - pair.1))
in_child grid pair (suc (suc (suc c))) = (2 * (grid - pair.1), 2 * pair.0)

-- the face of a location is a quad
abbrev pub is_quad_at : Level → Location → Bool
is_quad_at level at = nat_eq (length (polygon_at level.polygons at.number)) 4

-- the corners of the face whose child faces contain the location, ascending
abbrev pub corners_with : ℕ → Level → Location → List ℕ
corners_with grid level at =
    if is_quad_at level at then filter (has_pair grid (at.s, at.t)) (range_with_len 0 4) else at.corner ∷ []

-- the pair of the location in the child face of a corner
abbrev pub pair_at : ℕ → Level → Location → ℕ → ℕ × ℕ
pair_at grid level at c = if is_quad_at level at then in_child grid (at.s, at.t) c else (at.s, at.t)

-- the location in the child face of a corner
abbrev pub child_at : ℕ → Level → Location → ℕ → Location
child_at grid level at c = record {
  level = at.level + 1;
  number = child_number level.polygons (at.number, c);
  corner = 0;
  s = (pair_at grid level at c).0;
  t = (pair_at grid level at c).1;
}

-- The leaves that contain a location, at most `further` levels later. A leaf is a face that is not selected, or a face of the
-- last level. The leaves are in the order of their paths, corner by corner from the location.
abbrev pub leaves_within : ℕ → ℕ → Level → FacePredicate → Location → List Location
leaves_within grid zero base predicate at = at ∷ []
leaves_within grid (suc further) base predicate at =
    if is_among (selected base predicate at.level) at.number
    then flat_map (λ c. leaves_within grid further base predicate (child_at grid (refined_level base at.level) at c))
    (corners_with grid (refined_level base at.level) at)
    else at ∷ []

-- the leaf of a location among the levels to a depth: the first leaf that contains it
abbrev pub leaf_of : ℕ → ℕ → Level → FacePredicate → Location → Location
leaf_of grid depth base predicate at = get_or (leaves_within grid depth base predicate at) 0 at

-- a face of this size has places with this corner
abbrev pub is_corner_of : ℕ → ℕ → Bool
is_corner_of size corner = if nat_eq size 4 then nat_eq corner 0 else nat_lt corner size

-- the faults of a face of level 0 without places: it does not exist, has no places with this corner, or is a hole
abbrev pub location_faults : Level → ℕ → ℕ → List Fault
location_faults base face corner =
    if nat_lt face (length base.polygons)
    then fault_where (not (is_corner_of (length (polygon_at base.polygons face)) corner)) (Place (NoCorner (length (polygon_at base.polygons face))))
    ++ fault_where (is_hole base face) (Place (IsHole face))
    else Place (NoFace (length base.polygons)) ∷ []

-- the location of a pair on a face of level 0
abbrev pub base_location : ℕ → ℕ → ℕ × ℕ → Location
base_location face corner pair = record { level = 0; number = face; corner = corner; s = pair.0; t = pair.1 }

-- the line of a pair, with its leaf
abbrev pub leaf_line : ℕ → ℕ × ℕ → Location → List ℕ
leaf_line grid pair leaf =
    line_text (codes "p")
    (number_text pair.0 ∷ number_text pair.1
    ∷ codes "level" ∷ number_text leaf.level
    ∷ codes "face" ∷ number_text leaf.number
    ∷ codes "corner" ∷ number_text leaf.corner
    ∷ codes "at" ∷ ratio_text (lowest (leaf.s, grid)) ∷ ratio_text (lowest (leaf.t, grid))
    ∷ [])

-- the pairs of a grid, row by row
abbrev pub grid_pairs : ℕ → List (ℕ × ℕ)
grid_pairs grid = flat_map (λ j. map (λ i. (i, j)) (range_with_len 0 (grid + 1))) (range_with_len 0 (grid + 1))
