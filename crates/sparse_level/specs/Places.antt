-- The part of the next level that is present.
use Rattle.std.specs.Prelude.{ℕ, ◌+◌, ◌^◌, ◌<◌, ◌≤◌, Bool, false, nat_eq, List, [], ◌∷◌, ◌++◌, length, map, get_or, if◌then◌else◌}
use Rattle.std.specs.List.{flat_map, range_with_len}
use Rattle.subdiv_model.specs.Lists.{places, each_once_by}
use Rattle.subdiv_model.specs.Polygons.{Polygon, polygon_at, is_among}
use Rattle.subdiv_model.specs.Level.{Level}
use Rattle.subdiv_model.specs.Sparse.{is_on}
use Rattle.level_topology.specs.ChildTables.{IsInverse}
use Rattle.child_slots.specs.Slots.{quad_at}

-- the numbers that are marked
abbrev pub marked : List Bool → List ℕ
marked marks = places (λ mark. mark) marks

-- a mark for each vertex: true where it lies on a selected face
abbrev pub marks_on : Level → List ℕ → List Bool
marks_on level selected = map (is_on level.polygons selected) (range_with_len 0 level.point_count)

-- the corners of a face whose vertices are marked, and those of all faces; `f` is the number of the first face
abbrev pub marked_corners : List Bool → ℕ → Polygon → List (ℕ × ℕ)
marked_corners on f polygon = map (λ c. (f, c)) (places (λ v. get_or on v false) polygon)

abbrev pub marked_places : List Bool → ℕ → List Polygon → List (ℕ × ℕ)
marked_places on f [] = []
marked_places on f (polygon ∷ polygons) = marked_corners on f polygon ++ marked_places on (f + 1) polygons

-- each place is a corner of a face
abbrev pub AreWithin : Level → List (ℕ × ℕ) → Type 0
AreWithin level faces = (i : ℕ) → i < length faces → (get_or faces i (0, 0)).1 < length (polygon_at level.polygons (get_or faces i (0, 0)).0)

-- the corners of the child faces of these places, by first appearance, with numbers of the whole next level
abbrev pub points_at : Level → List (ℕ × ℕ) → List ℕ
points_at level faces = each_once_by nat_eq (flat_map (λ place. quad_at level.point_count level.polygons place.0 place.1) faces)

-- a list with one more point, and with some more points, each only if it is not in the list
abbrev pub with_point : List ℕ → ℕ → List ℕ
with_point points n = if is_among points n then points else points ++ n ∷ []

abbrev pub with_points : List ℕ → List ℕ → List ℕ
with_points points [] = points
with_points points (n ∷ more) = with_points (with_point points n) more

-- the table has the place of each point, and each point is below its length
pub record ArePointsIn (points table : List ℕ) : Type 0 where
  pub inverse : IsInverse points table
  pub below : (i : ℕ) → i < length points → get_or points i 0 < length table
  pub few : length points ≤ 2 ^ 31
