-- The next sparse level, as a step of a walk.
use Rattle.std.specs.Prelude.{ℕ, ◌≡◌, ◌+◌, ◌^◌, ◌<◌, ◌≤◌, Bool, length, IsTrue}
use Rattle.std.specs.Fn.{Shared}
use Rattle.std.specs.Borrow.{Bor}
use Rattle.subdiv_model.specs.Polygons.{is_over}
use Rattle.subdiv_model.specs.Level.{Level}
use Rattle.subdiv_model.specs.Feature as feature
use Rattle.subdiv_model.specs.Sparse.{FacePredicate}
use Rattle.level_topology.specs.Child.{ChildTopology}
use Rattle.level_topology.specs.declared.facts.FaceFacts.{FaceFacts}
use Rattle.feature_select.specs.Rule.{AnswersTest}
use Rattle.sparse_laws.specs.SparseLevels.{IsSparse}
use Rattle.sparse_laws.specs.Selected.{Agrees, OverflowsOn}
use Rattle.sparse_laws.specs.Laws.{HasSharpBoundary}
use Rattle.sparse_level.specs.View.{SparseTopology, SparseChild, level_of}
use Rattle.sparse_refiner.specs.Refined.{IsRefined, chosen, places_for}
use Rattle.level_walk.specs.declared.fault.Cause.{Cause}
use Rattle.level_walk.specs.declared.fault.Cause.TheVariants as cause
use Rattle.level_walk.specs.declared.fault.OverflowKind.TheVariants as kind
use Rattle.sparse_walk.specs.View.{Walked, walked_after}

-- a predicate agrees with a test on all levels before a depth
abbrev pub AgreesBefore : (feature.FaceFacts → Bool) → Level → FacePredicate → ℕ → Type 0
AgreesBefore test base predicate depth = (k : ℕ) → k < depth → Agrees test base predicate k

-- the level is the sparse level of the definitions, for each predicate that agrees with the test on the levels before
pub record StandsFor (test : feature.FaceFacts → Bool) (base : Level) (t : SparseTopology) : Type 0 where
  pub over : IsTrue (is_over base.point_count base.polygons)
  pub boundary : HasSharpBoundary base
  pub is : (predicate : FacePredicate) → AgreesBefore test base predicate t.depth → IsSparse base predicate (level_of t)

-- This many levels can be made after the level: it is a sparse level of some base, and none of them is deeper than 10. The
-- rule accepts its faces.
pub record IsReadyFor {F : Type 0} (call : Shared F (Bor FaceFacts × Unit {0}) Bool) (select : F) (test : feature.FaceFacts → Bool) (t : SparseTopology) (left : ℕ) : Type 0 where
  pub answers : AnswersTest call select test
  pub deep : t.depth + left ≤ 10
  pub base : Level
  pub stands : StandsFor test base t

-- the step takes at most one count for each present face of the next level
pub record ArePresentSteps (test : feature.FaceFacts → Bool) (t : SparseTopology) (old new : ℕ) : Type 0 where
  pub most : new ≤ old + length (places_for test t)
  pub later : old ≤ new

-- the next sparse level, with the marks of the selected faces
pub record IsMade (test : feature.FaceFacts → Bool) (parent : Walked) (child : ChildTopology) (next : Walked) (old new : ℕ) : Type 0 where
  pub step : SparseChild
  pub refined : IsRefined test parent.sparse step
  pub child_is : child ≡ step.child
  pub next_is : next ≡ walked_after step
  pub steps : ArePresentSteps test parent.sparse old new

-- the next level is within the bound of faces, and at some vertex on a selected face halves overflow
pub record Overflows (test : feature.FaceFacts → Bool) (t : SparseTopology) : Type 0 where
  pub few : length (places_for test t) ≤ 2 ^ 22
  pub v : ℕ
  pub overflows : OverflowsOn t.topology.level (chosen test t) v

-- the next level has this many faces, above the bound, or halves overflow; memory may run out at any level
abbrev pub IsSparseCause : (feature.FaceFacts → Bool) → SparseTopology → Cause → Type 0
IsSparseCause test t (cause.TooManyFaces count) = (count ≡ length (places_for test t)) × (2 ^ 22 < count)
IsSparseCause test t (cause.Overflow kind.Chaikin) = Overflows test t
IsSparseCause test t (cause.Overflow kind.Transition) = ⊥
IsSparseCause test t (cause.Overflow kind.Denominator) = ⊥
IsSparseCause test t (cause.Overflow kind.Value) = ⊥
IsSparseCause test t cause.TooManyEntries = ⊥
IsSparseCause test t cause.Memory = Unit {0}

-- the cause that there is no next level
pub record IsRefused (test : feature.FaceFacts → Bool) (parent : Walked) (cause : Cause) (old new : ℕ) : Type 0 where
  pub is : IsSparseCause test parent.sparse cause
  pub steps : ArePresentSteps test parent.sparse old new
