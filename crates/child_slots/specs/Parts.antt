-- A part of the next level: some of its faces, each the child of a corner of the level.
use Rattle.std.specs.Prelude.{ℕ, ◌≡◌, ◌+◌, ◌<◌, Bool, true, List, length, map, get_or}
use Rattle.subdiv_model.specs.Polygons.{Polygon, polygon_at, has_corner}
use Rattle.child_slots.specs.Slots.{first_child, quad_at}

-- A part has the places of its faces, each a face and a corner of the level. `has` decides whether it has a point of the whole
-- next level, and `number` is the number of a point in the part.
pub record Part : Type 0 where
  pub places : List (ℕ × ℕ)
  pub has : ℕ → Bool
  pub number : ℕ → ℕ

abbrev pub part : List (ℕ × ℕ) → (ℕ → Bool) → (ℕ → ℕ) → Part
part places has number = record { places = places; has = has; number = number }

-- the number, in the whole next level, of the child face of a place
abbrev pub place_number : List Polygon → ℕ × ℕ → ℕ
place_number polygons place = first_child polygons place.0 + place.1

-- the child face of a place, with numbers of the whole next level
abbrev pub whole_quad : ℕ → List Polygon → ℕ × ℕ → Polygon
whole_quad points polygons place = quad_at points polygons place.0 place.1

-- the child faces of all places, with numbers of the part
abbrev pub part_polygons : ℕ → List Polygon → Part → List Polygon
part_polygons points polygons p = map (λ place. map p.number (whole_quad points polygons place)) p.places

-- the places belong to the level and ascend; the part has the corners of their child faces; different points have different
-- numbers
pub record IsPart (points : ℕ) (polygons : List Polygon) (p : Part) : Type 0 where
  pub within : (i : ℕ) → i < length p.places → (get_or p.places i (0, 0)).1 < length (polygon_at polygons (get_or p.places i (0, 0)).0)
  pub ascend : (i j : ℕ) → i < j → j < length p.places → place_number polygons (get_or p.places i (0, 0)) < place_number polygons (get_or p.places j (0, 0))
  pub corners : (i n : ℕ) → i < length p.places → has_corner n (whole_quad points polygons (get_or p.places i (0, 0))) ≡ true → p.has n ≡ true
  pub apart : (n m : ℕ) → p.has n ≡ true → p.has m ≡ true → p.number n ≡ p.number m → n ≡ m

-- a side of the whole next level, with numbers of the part
abbrev pub renumbered : (ℕ → ℕ) → ℕ × ℕ → ℕ × ℕ
renumbered number s = (number s.0, number s.1)
