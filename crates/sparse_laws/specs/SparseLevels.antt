-- A sparse level as the program keeps it, and when it is the one of the definitions.
-- Source: Drillolive.
use Rattle.std.specs.Prelude.{ℕ, ◌≡◌, Bool, true, false, List, length, map, get_or, replicate, IsTrue}
use Rattle.std.specs.List.{range_with_len}
use Rattle.subdiv_model.specs.Polygons.{is_among, is_over, polygon_at, has_corner}
use Rattle.subdiv_model.specs.Level.{Level}
use Rattle.subdiv_model.specs.Child.{refined_level}
use Rattle.subdiv_model.specs.Sparse.{FacePredicate, inner, present, present_points, is_whole}
use Rattle.part_laws.specs.LevelParts.{IsLevelPart}

-- some faces of a uniform level, with the numbers they have there
pub record SparseLevel : Type 0 where
  pub level : Level
  -- for each point, whether the sparse level has all its faces of the uniform level
  pub complete : List Bool
  -- for each face, its number in the uniform level
  pub numbers : List ℕ
  -- for each face, whether its parent is selected
  pub inner : List Bool
  -- the number of steps
  pub depth : ℕ

-- the number of a point in the uniform level, from the list of these numbers
abbrev pub name_in : List ℕ → ℕ → ℕ
name_in points p = get_or points p 0

-- each corner of an inner face is complete
abbrev pub AreInnerComplete : SparseLevel → Type 0
AreInnerComplete s = (f p : ℕ) → get_or s.inner f false ≡ true → IsTrue (has_corner p (polygon_at s.level.polygons f)) → get_or s.complete p false ≡ true

-- The faces are the present faces, and the points are the present points. Polygons, holes and sharpness are those of the uniform
-- level. Inner faces and complete points are those of the definitions. Each corner of an inner face is complete, and each corner is
-- one of the points.
pub record IsSparse (base : Level) (predicate : FacePredicate) (s : SparseLevel) : Type 0 where
  pub numbers : s.numbers ≡ present base predicate s.depth
  pub points : s.level.point_count ≡ length (present_points base predicate s.depth)
  pub part : IsLevelPart (name_in (present_points base predicate s.depth)) s.numbers s.level (refined_level base s.depth)
  pub inner : s.inner ≡ map (is_among (inner base predicate s.depth)) s.numbers
  pub complete : s.complete ≡ map (is_whole base predicate s.depth) (present_points base predicate s.depth)
  pub inside : AreInnerComplete s
  pub over : IsTrue (is_over s.level.point_count s.level.polygons)

-- level 0 with all its faces
abbrev pub whole_base : Level → SparseLevel
whole_base base = record {
  level = base;
  complete = replicate base.point_count true;
  numbers = range_with_len 0 (length base.polygons);
  inner = replicate (length base.polygons) true;
  depth = 0;
}
