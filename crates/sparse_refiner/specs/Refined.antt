-- The result of a sparse refinement: the next sparse level, or the fault.
use Rattle.std.specs.Prelude.{ℕ, ◌≡◌, ◌^◌, ◌<◌, ◌≤◌, Bool, true, false, List, length, map, IsTrue}
use Rattle.std.specs.List.{range_with_len}
use Rattle.subdiv_model.specs.Polygons.{is_over}
use Rattle.subdiv_model.specs.Level.{Level}
use Rattle.subdiv_model.specs.Channel.{chaikin_overflows_at}
use Rattle.subdiv_model.specs.Feature.{FaceFacts}
use Rattle.subdiv_model.specs.Sparse.{FacePredicate, is_on}
use Rattle.level_topology.specs.Child.{child_of}
use Rattle.level_topology.specs.ChildTables.{numbered_origin}
use Rattle.sparse_laws.specs.SparseLevels.{IsSparse}
use Rattle.sparse_laws.specs.NextSparse.{IsNextSparse, next_places, next_points}
use Rattle.sparse_laws.specs.Selected.{Agrees, OverflowsOn, is_selected_in, selected_in}
use Rattle.sparse_level.specs.View.{SparseTopology, SparseChild, level_of, next_of}
use Rattle.uniform_refiner.specs.declared.fault.RefineFault.{RefineFault}
use Rattle.uniform_refiner.specs.declared.fault.RefineFault.TheVariants.{TooLarge, Chaikin, Memory}

-- the faces of a sparse level that a test selects
abbrev pub chosen : (FaceFacts → Bool) → SparseTopology → List ℕ
chosen test t = selected_in test (level_of t)

-- the places of the present child faces, for the faces that a test selects
abbrev pub places_for : (FaceFacts → Bool) → SparseTopology → List (ℕ × ℕ)
places_for test t = next_places t.topology.level.polygons (chosen test t)

-- The step has the next sparse level as a child, and the marks of the selected faces. The next level is within the bound of
-- faces, and at no vertex on a selected face halves overflow.
pub record IsRefined (test : FaceFacts → Bool) (t : SparseTopology) (step : SparseChild) : Type 0 where
  pub next : IsNextSparse (level_of t) (chosen test t) (level_of (next_of step))
  pub selected : step.selected ≡ map (is_selected_in test (level_of t)) (range_with_len 0 (length t.topology.level.polygons))
  pub of : step.child ≡ child_of t.topology step.child.topology
      (map (numbered_origin t.topology.level.point_count (length t.topology.level.polygons)) (next_points t.topology.level (chosen test t))) (places_for test t)
  pub few : length (places_for test t) ≤ 2 ^ 22
  pub fine : (v : ℕ) → v < t.topology.level.point_count → is_on t.topology.level.polygons (chosen test t) v ≡ true
      → chaikin_overflows_at t.topology.level v ≡ false

-- the next level is within the bound of faces, and this is the first vertex on a selected face at which halves overflow
pub record OverflowsFirst (test : FaceFacts → Bool) (t : SparseTopology) (v : ℕ) : Type 0 where
  pub few : length (places_for test t) ≤ 2 ^ 22
  pub overflows : OverflowsOn t.topology.level (chosen test t) v
  pub first : (u : ℕ) → u < v → is_on t.topology.level.polygons (chosen test t) u ≡ true → chaikin_overflows_at t.topology.level u ≡ false

-- the next level has this number of faces, above the bound, or halves overflow at this vertex first; memory may run out at
-- any level
abbrev pub IsRefusal : (FaceFacts → Bool) → SparseTopology → RefineFault → Type 0
IsRefusal test t (TooLarge count) = (count ≡ length (places_for test t)) × (2 ^ 22 < count)
IsRefusal test t (Chaikin v) = OverflowsFirst test t v
IsRefusal test t Memory = Unit {0}

-- the level is a sparse level of the definitions, for a predicate that agrees with the test at its depth
pub record SparseOf (test : FaceFacts → Bool) (t : SparseTopology) : Type 0 where
  pub base : Level
  pub predicate : FacePredicate
  pub over : IsTrue (is_over base.point_count base.polygons)
  pub is : IsSparse base predicate (level_of t)
  pub agrees : Agrees test base predicate t.depth

-- the step makes the next sparse level of the definitions
abbrev pub IsNextOf : {test : FaceFacts → Bool} {t : SparseTopology} → SparseOf test t → SparseChild → Type 0
IsNextOf of step = IsSparse of.base of.predicate (level_of (next_of step))
