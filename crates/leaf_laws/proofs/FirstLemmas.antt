-- The leaf of a location is found level by level.
use Rattle.std.proofs.Common.{◌≡◌, ℕ, zero, suc, ◌<◌, Bool, true, false, List, [], ◌∷◌, ◌++◌, length, get_or, arith, refl, ap, ◌∙◌}
use Rattle.std.specs.List.{flat_map}
use Rattle.subdiv_model.specs.Polygons.{is_among}
use Rattle.subdiv_model.specs.Level.{Level}
use Rattle.subdiv_model.specs.Child.{refined_level}
use Rattle.subdiv_model.specs.Sparse.{FacePredicate, selected}
use Rattle.subdiv_model.specs.Leaf.{Location, is_quad_at, corners_with, child_at, leaves_within, leaf_of}
use Rattle.leaf_laws.specs.FirstLeaf.{IsInGrid, first_corner, first_leaf}
use Rattle.leaf_laws.proofs.PairLemmas.{first-with, child-within}

-- the corners whose child faces have a location begin with the least, and there the location lies on the grid
pub record FirstCorner (grid : ℕ) (level : Level) (at : Location) : Type 0 where
  pub rest : List ℕ
  pub begin : corners_with grid level at ≡ first_corner grid level at ∷ rest
  pub inside : IsInGrid grid (child_at grid level at (first_corner grid level at))

pub corner-first : (grid : ℕ) (level : Level) (at : Location) → IsInGrid grid at → FirstCorner grid level at
corner-first grid level at is = go (is_quad_at level at) refl
  where
    go : (b : Bool) → is_quad_at level at ≡ b → FirstCorner grid level at
    go true e =
        let first = first-with grid at.s at.t is.s is.t in
        let within = child-within grid _ at.s at.t is.s is.t first.passes in
        record { rest = first.rest; begin = rw e first.kept; inside = record { s = rw e within.0; t = rw e within.1 } }
    go false e = record { rest = []; begin = rw e refl; inside = record { s = rw e is.s; t = rw e is.t } }

-- the leaves of a location begin with the leaf that is found level by level
pub leaves-begin : (grid further : ℕ) (base : Level) (predicate : FacePredicate) (at : Location) → IsInGrid grid at
    → (rest : List Location) × (leaves_within grid further base predicate at ≡ first_leaf grid further base predicate at ∷ rest)
leaves-begin grid zero base predicate at is = ([], refl)
leaves-begin grid (suc further) base predicate at is =
    let level = refined_level base at.level in
    let first = corner-first grid level at is in
    go (is_among (selected base predicate at.level) at.number) refl first
    (leaves-begin grid further base predicate (child_at grid level at (first_corner grid level at)) first.inside)
  where
    go : (b : Bool) → is_among (selected base predicate at.level) at.number ≡ b → FirstCorner grid (refined_level base at.level) at
        → (rest : List Location) × (leaves_within grid further base predicate (child_at grid (refined_level base at.level) at (first_corner grid (refined_level base at.level) at))
        ≡ first_leaf grid further base predicate (child_at grid (refined_level base at.level) at (first_corner grid (refined_level base at.level) at)) ∷ rest)
        → (rest : List Location) × (leaves_within grid (suc further) base predicate at ≡ first_leaf grid (suc further) base predicate at ∷ rest)
    go true e first behind =
        let leaves : ℕ → List Location = λ c. leaves_within grid further base predicate (child_at grid (refined_level base at.level) at c) in
        let whole : flat_map leaves (corners_with grid (refined_level base at.level) at)
        ≡ first_leaf grid further base predicate (child_at grid (refined_level base at.level) at (first_corner grid (refined_level base at.level) at)) ∷ (behind.0 ++ flat_map leaves first.rest) =
        ap (flat_map leaves) first.begin ∙ ap (λ (l : List Location). l ++ flat_map leaves first.rest) behind.1 in
        (behind.0 ++ flat_map leaves first.rest, rw e whole)
    go false e first behind = ([], rw e refl)

pub leaves-some : (grid further : ℕ) (base : Level) (predicate : FacePredicate) (at : Location) → IsInGrid grid at → 0 < length (leaves_within grid further base predicate at)
leaves-some grid further base predicate at is = let begins = leaves-begin grid further base predicate at is in omega (arith, ap length begins.1)

pub leaf-first : (grid depth : ℕ) (base : Level) (predicate : FacePredicate) (at : Location) → IsInGrid grid at → leaf_of grid depth base predicate at ≡ first_leaf grid depth base predicate at
leaf-first grid depth base predicate at is = let begins = leaves-begin grid depth base predicate at is in ap (λ (leaves : List Location). get_or leaves 0 at) begins.1
