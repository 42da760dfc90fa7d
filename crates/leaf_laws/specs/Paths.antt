-- Leaves by their paths: the corners whose child faces lead to them.
use Rattle.std.specs.Prelude.{ℕ, zero, suc, ◌≡◌, Bool, true, false, ◌&&◌, ◌||◌, nat_eq, nat_lt, List, [], ◌∷◌}
use Rattle.subdiv_model.specs.Polygons.{is_among}
use Rattle.subdiv_model.specs.Level.{Level}
use Rattle.subdiv_model.specs.Child.{refined_level}
use Rattle.subdiv_model.specs.Sparse.{FacePredicate, selected}
use Rattle.subdiv_model.specs.Leaf.{Location, corners_with, child_at}
use Rattle.leaf_laws.specs.FirstLeaf.{LeafSearch}

-- The path leads from a location to the leaf in at most `further` levels. At each corner of the path the face is selected and the
-- child of the corner contains the location. At its end the face is not selected or no level is left.
abbrev pub IsLeafOn : ℕ → ℕ → Level → FacePredicate → Location → List ℕ → Location → Type 0
IsLeafOn grid zero base predicate at [] leaf = leaf ≡ at
IsLeafOn grid zero base predicate at (c ∷ path) leaf = ⊥
IsLeafOn grid (suc further) base predicate at [] leaf = (is_among (selected base predicate at.level) at.number ≡ false) × (leaf ≡ at)
IsLeafOn grid (suc further) base predicate at (c ∷ path) leaf =
    (is_among (selected base predicate at.level) at.number ≡ true)
    × (is_among (corners_with grid (refined_level base at.level) at) c ≡ true)
    × IsLeafOn grid further base predicate (child_at grid (refined_level base at.level) at c) path leaf

-- the path leads from the location to the leaf
abbrev pub LeadsTo : LeafSearch → List ℕ → Location → Type 0
LeadsTo search path leaf = IsLeafOn search.grid search.further search.base search.predicate search.at path leaf

-- two leaves that a location has, each with a path that leads to it
pub record TwoLeaves (search : LeafSearch) : Type 0 where
  pub path : List ℕ
  pub leaf : Location
  pub leads : LeadsTo search path leaf
  pub other_path : List ℕ
  pub other : Location
  pub other_leads : LeadsTo search other_path other

-- the first path is not greater than the second, compared corner by corner from the location
abbrev pub is_not_after : List ℕ → List ℕ → Bool
is_not_after [] other = true
is_not_after (c ∷ path) [] = false
is_not_after (c ∷ path) (d ∷ other) = nat_lt c d || nat_eq c d && is_not_after path other

-- the path leads to the leaf, and no path to a leaf of the location is less
pub record IsLeastLeaf (search : LeafSearch) (leaf : Location) : Type 0 where
  pub path : List ℕ
  pub leads : LeadsTo search path leaf
  pub least : (other : List ℕ) (another : Location) → LeadsTo search other another → is_not_after path other ≡ true

-- the pair is on the border of its face
abbrev pub is_on_border : ℕ → ℕ × ℕ → Bool
is_on_border grid pair = nat_eq pair.0 0 || nat_eq pair.0 grid || nat_eq pair.1 0 || nat_eq pair.1 grid

-- the pair of a location is on the border of its face
abbrev pub IsOnBorder : ℕ → Location → Type 0
IsOnBorder grid at = is_on_border grid (at.s, at.t) ≡ true

-- both leaves have the location on their border
abbrev pub ShareBorders : {search : LeafSearch} → TwoLeaves search → Type 0
ShareBorders {search} two = IsOnBorder search.grid two.leaf × IsOnBorder search.grid two.other
