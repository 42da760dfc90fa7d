-- The faces at a vertex, each with the corner before the vertex and the corner after it.
use Rattle.std.specs.Prelude.{ℕ, ◌≡◌, ◌<◌, Bool, true, nat_eq, List, length, map, get_or, IsTrue}
use Rattle.std.specs.List.{list_all, position_or_len}
use Rattle.subdiv_model.specs.Polygons.{Polygon, has_side, has_corner, has_distinct_sides, is_among, is_distinct, polygon_at}
use Rattle.subdiv_model.specs.Edges.{all_sides}
use Rattle.subdiv_model.specs.Manifold.{is_simple, has_one_fan}

-- the lists have each face at the vertex once, with the corner before the vertex there and the corner after it
pub record IsGroup (polygons : List Polygon) (v : ℕ) (befores faces afters : List ℕ) : Type 0 where
  pub same_befores : length befores ≡ length faces
  pub same_afters : length afters ≡ length faces
  pub leads : (i : ℕ) → i < length faces → has_side (get_or befores i 0, v) (polygon_at polygons (get_or faces i 0)) ≡ true
  pub follows : (i : ℕ) → i < length faces → has_side (v, get_or afters i 0) (polygon_at polygons (get_or faces i 0)) ≡ true
  pub once : is_distinct faces ≡ true
  pub all : (f : ℕ) → is_among faces f ≡ has_corner v (polygon_at polygons f)

-- The decision whether the faces at a vertex are one fan, from the corners before and after it. All faces are simple, and no
-- side occurs twice.
abbrev pub DecidesFan : List ℕ → List ℕ → Bool → Type 0
DecidesFan befores afters is =
    (polygons : List Polygon) (v : ℕ) (faces : List ℕ) → IsGroup polygons v befores faces afters → IsTrue (list_all is_simple polygons)
    → IsTrue (has_distinct_sides (all_sides polygons)) → is ≡ has_one_fan polygons v

-- for each face the place of the next one about the vertex: the face that comes from the corner to which this one goes
abbrev pub next_places : List ℕ → List ℕ → List ℕ
next_places befores afters = map (λ a. position_or_len (nat_eq a) befores) afters
