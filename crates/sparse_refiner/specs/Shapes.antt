-- The points of a part of the next level, and which of them are complete.
use Rattle.std.specs.Prelude.{ℕ, ◌≡◌, ◌<◌, ◌≤◌, ◌^◌, Bool, true, false, List, length, map, get_or}
use Rattle.subdiv_model.specs.Polygons.{Polygon}
use Rattle.subdiv_model.specs.Level.{Level}
use Rattle.subdiv_model.specs.Child.{child_level}
use Rattle.subdiv_model.specs.Manifold.{HasOneFan}
use Rattle.part_laws.specs.Parts.{IsWholeAt}
use Rattle.level_topology.specs.ChildTables.{place_of}
use Rattle.child_slots.specs.Parts.{Part, part, place_number}
use Rattle.sparse_refiner.specs.declared.shape.PartShape.{PartShape}

-- the part that a shape describes, with the given test and numbering of points
abbrev pub part_in : {P : Type 0} → (P → ℕ → Bool) → (P → ℕ → ℕ) → PartShape P → Part
part_in has number shape = part (map place_of shape.places.now) (has shape.points.now) (number shape.points.now)

-- the level whose next level has the part
abbrev pub level_in : {P : Type 0} → PartShape P → Level
level_in shape = shape.level.now.level

-- the numbers, in the whole next level, of the child faces of these places
abbrev pub children_at : List Polygon → List (ℕ × ℕ) → List ℕ
children_at polygons places = map (place_number polygons) places

abbrev pub children_in : {P : Type 0} → PartShape P → List ℕ
children_in shape = children_at shape.level.now.level.polygons (map place_of shape.places.now)

-- the number of a point of the part in the whole next level
abbrev pub name_in : List ℕ → ℕ → ℕ
name_in names p = get_or names p 0

-- each point of the part has its number in the whole next level at its own place of the list
pub record AreNames (has : ℕ → Bool) (number : ℕ → ℕ) (names : List ℕ) : Type 0 where
  pub there : (i : ℕ) → i < length names → has (name_in names i) ≡ true
  pub own : (i : ℕ) → i < length names → number (name_in names i) ≡ i
  pub listed : (n : ℕ) → has n ≡ true → (number n < length names) × (name_in names (number n) ≡ n)
  pub few : length names ≤ 2 ^ 30

-- a marked point has all its faces of the whole next level, and they are one fan there
pub record AreMarks (level : Level) (children names : List ℕ) (complete : List Bool) : Type 0 where
  pub count : length complete ≡ length names
  pub whole : (p : ℕ) → p < length names → get_or complete p false ≡ true → IsWholeAt children (child_level level).polygons (name_in names p)
  pub fan : (p : ℕ) → p < length names → get_or complete p false ≡ true → HasOneFan (child_level level).polygons (name_in names p)
