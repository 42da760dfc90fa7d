-- The numbers of the points of the next sparse level: from the masks of the sparse level, and in the next uniform level.
-- Source: Drillolive.
use Rattle.std.specs.Prelude.{ℕ, suc, ◌≡◌, ◌<◌, Bool, true, ℤ, pos, List, [], map, get_or}
use Rattle.std.specs.List.{list_any}
use Rattle.subdiv_model.specs.Level.{Level}
use Rattle.subdiv_model.specs.Value.{Value, whole_value}
use Rattle.subdiv_model.specs.Child.{refined_level}
use Rattle.subdiv_model.specs.Mask.{Mask, Scheme, child_masks, mask_of}
use Rattle.subdiv_model.specs.Refined.{child_denominators, child_values, control_values, refined_denominators, refined_values}
use Rattle.subdiv_model.specs.Support.{child_supports, refined_supports}
use Rattle.subdiv_model.specs.SparseFaults.{points_with_child}
use Rattle.part_laws.specs.Children.{name_next}
use Rattle.part_laws.specs.Masks.{mask_in}
use Rattle.subdiv_model.specs.Sparse.{is_on, present_points}
use Rattle.subdiv_model.specs.Channel.{transition_overflows_at}
use Rattle.sparse_laws.specs.NextSparse.{next_points}
use Rattle.sparse_laws.specs.Laws.{SparseRefinement, AgreeingTest, TestedRefinement, chosen_by, part_of}

-- the items at the listed places
abbrev pub items_at : {X : Type 0} → List ℕ → X → List X → List X
items_at numbers default items = map (λ n. get_or items n default) numbers

-- the items of the uniform level at the points of a sparse level
abbrev pub at_points : {X : Type 0} → SparseRefinement → X → List X → List X
at_points refinement default items = items_at (present_points refinement.base refinement.predicate refinement.sparse.depth) default items

-- the items of the next uniform level at the points of the next sparse level
abbrev pub at_next_points : {X : Type 0} → SparseRefinement → X → List X → List X
at_next_points refinement default items = items_at (present_points refinement.base refinement.predicate (suc refinement.sparse.depth)) default items

-- the points of the next sparse level, by their numbers in the whole next level of the sparse level
abbrev pub next_points_of : {refinement : SparseRefinement} → AgreeingTest refinement → List ℕ
next_points_of {refinement} by = next_points refinement.sparse.level (chosen_by by)

-- a sparse level with a test that selects the faces of its predicate, and the scheme of the masks
pub record SchemeRefinement : Type 0 where
  pub tested : TestedRefinement
  pub scheme : Scheme

-- the sparse level
abbrev pub level_in : SchemeRefinement → Level
level_in given = given.tested.refinement.sparse.level

-- the uniform level of as many steps
abbrev pub uniform_level_in : SchemeRefinement → Level
uniform_level_in given = refined_level given.tested.refinement.base given.tested.refinement.sparse.depth

-- the points of the next sparse level, by their numbers in the whole next level of the sparse level
abbrev pub next_points_in : SchemeRefinement → List ℕ
next_points_in given = next_points_of given.tested.by

-- the point of the next sparse level at this place
abbrev pub next_point : SchemeRefinement → ℕ → ℕ
next_point given i = get_or (next_points_in given) i 0

-- the mask that the sparse level gives a point of its whole next level, with the sources of the uniform level
abbrev pub sparse_mask : SchemeRefinement → ℕ → Mask
sparse_mask given n =
    let part = part_of given.tested.refinement in mask_in part.name part.faces (get_or (child_masks (level_in given) given.scheme) n (mask_of [] 1))

-- the mask that the uniform level gives the same point
abbrev pub uniform_mask : SchemeRefinement → ℕ → Mask
uniform_mask given n = get_or (child_masks (uniform_level_in given) given.scheme) (name_next (part_of given.tested.refinement) n) (mask_of [] 1)

-- the common denominators of the points of the next sparse level, from the masks of the sparse level and the uniform denominators
abbrev pub sparse_denominators : SchemeRefinement → List ℕ
sparse_denominators given =
    let refinement = given.tested.refinement in
    items_at (next_points_in given) 1
    (child_denominators (level_in given) given.scheme (at_points refinement 1 (refined_denominators refinement.base given.scheme refinement.sparse.depth)))

-- the common denominators of the next uniform level at the points of the next sparse level
abbrev pub uniform_denominators : SchemeRefinement → List ℕ
uniform_denominators given =
    let refinement = given.tested.refinement in at_next_points refinement 1 (refined_denominators refinement.base given.scheme (suc refinement.sparse.depth))

-- the supports of the points of the next sparse level, from the masks of the sparse level and the uniform supports
abbrev pub sparse_supports : SchemeRefinement → List (List ℕ)
sparse_supports given =
    let refinement = given.tested.refinement in
    items_at (next_points_in given) []
    (child_supports refinement.base.point_count (level_in given) given.scheme (at_points refinement [] (refined_supports refinement.base given.scheme refinement.sparse.depth)))

-- the supports of the next uniform level at the points of the next sparse level
abbrev pub uniform_supports : SchemeRefinement → List (List ℕ)
uniform_supports given =
    let refinement = given.tested.refinement in at_next_points refinement [] (refined_supports refinement.base given.scheme (suc refinement.sparse.depth))

-- the values of the points of the next sparse level, from the masks of the sparse level and the uniform values
abbrev pub sparse_values : SchemeRefinement → List ℤ → List Value
sparse_values given numbers =
    let refinement = given.tested.refinement in
    items_at (next_points_in given) (whole_value (pos 0))
    (child_values (level_in given) given.scheme
    (at_points refinement (whole_value (pos 0)) (refined_values refinement.base given.scheme (control_values numbers) refinement.sparse.depth)))

-- the values of the next uniform level at the points of the next sparse level
abbrev pub uniform_values : SchemeRefinement → List ℤ → List Value
uniform_values given numbers =
    let refinement = given.tested.refinement in
    at_next_points refinement (whole_value (pos 0)) (refined_values refinement.base given.scheme (control_values numbers) (suc refinement.sparse.depth))

-- the weight of a transition overflows at a point of the uniform level that has a present child
abbrev pub uniform_weighs_over : SchemeRefinement → Bool
uniform_weighs_over given =
    let refinement = given.tested.refinement in
    list_any (transition_overflows_at (uniform_level_in given) given.scheme)
    (points_with_child refinement.base refinement.predicate (uniform_level_in given).point_count refinement.sparse.depth)

-- the weight of a transition overflows at vertex v, which is on a selected face
pub record WeighsOver (level : Level) (selected : List ℕ) (scheme : Scheme) (v : ℕ) : Type 0 where
  pub exists : v < level.point_count
  pub on : is_on level.polygons selected v ≡ true
  pub overflows : transition_overflows_at level scheme v ≡ true

-- the weight of a transition overflows at vertex v, which is on a face that the test selects
abbrev pub WeighsOverIn : SchemeRefinement → ℕ → Type 0
WeighsOverIn given v = WeighsOver (level_in given) (chosen_by given.tested.by) given.scheme v
