-- The leaf of a location, found level by level.
use Rattle.std.specs.Prelude.{ℕ, zero, suc, ◌*◌, ◌≤◌, ◌≡◌, List, get_or, if◌then◌else◌}
use Rattle.std.specs.List.{filter, range_with_len}
use Rattle.subdiv_model.specs.Polygons.{is_among}
use Rattle.subdiv_model.specs.Level.{Level}
use Rattle.subdiv_model.specs.Child.{refined_level}
use Rattle.subdiv_model.specs.Sparse.{FacePredicate, selected}
use Rattle.subdiv_model.specs.Leaf.{Location, in_quad, has_pair, is_quad_at, child_at, leaves_within, leaf_of}

-- the pair of the location lies on the grid
pub record IsInGrid (grid : ℕ) (at : Location) : Type 0 where
  pub s : at.s ≤ grid
  pub t : at.t ≤ grid

-- a pair of the child of corner c that lies at the pair (s, t) of the quad
pub record ChildPair (grid c s t : ℕ) : Type 0 where
  pub pair : ℕ × ℕ
  pub along : pair.0 ≤ grid
  pub across : pair.1 ≤ grid
  pub is : in_quad grid c pair ≡ (2 * s, 2 * t)

-- the least corner of a quad whose child contains a pair
abbrev pub first_with : ℕ → ℕ × ℕ → ℕ
first_with grid pair = get_or (filter (has_pair grid pair) (range_with_len 0 4)) 0 0

-- the least corner whose child face contains the location
abbrev pub first_corner : ℕ → Level → Location → ℕ
first_corner grid level at = if is_quad_at level at then first_with grid (at.s, at.t) else at.corner

-- the leaf found by going from a selected face to the child face of its least corner with the location
abbrev pub first_leaf : ℕ → ℕ → Level → FacePredicate → Location → Location
first_leaf grid zero base predicate at = at
first_leaf grid (suc further) base predicate at =
    if is_among (selected base predicate at.level) at.number
    then first_leaf grid further base predicate (child_at grid (refined_level base at.level) at (first_corner grid (refined_level base at.level) at))
    else at

-- where leaves are sought: a location over a grid, at most `further` levels later, where a predicate selects faces of a base
pub record LeafSearch : Type 0 where
  pub grid : ℕ
  pub further : ℕ
  pub base : Level
  pub predicate : FacePredicate
  pub at : Location

-- the pair of the location lies on the grid
abbrev pub StartsInGrid : LeafSearch → Type 0
StartsInGrid search = IsInGrid search.grid search.at

-- the leaves that contain the location
abbrev pub leaves_in : LeafSearch → List Location
leaves_in search = leaves_within search.grid search.further search.base search.predicate search.at

-- the leaf of the location
abbrev pub leaf_in : LeafSearch → Location
leaf_in search = leaf_of search.grid search.further search.base search.predicate search.at

-- the leaf of the location, found level by level
abbrev pub first_leaf_in : LeafSearch → Location
first_leaf_in search = first_leaf search.grid search.further search.base search.predicate search.at
