-- The whole next level, as a step of a walk.
use Rattle.std.specs.Prelude.{ℕ, ◌≡◌, ◌+◌, ◌*◌, ◌^◌, ◌<◌, ◌≤◌, true, length, replicate, IsTrue}
use Rattle.std.specs.List.{sum_by}
use Rattle.subdiv_model.specs.Level.{Level}
use Rattle.mask_laws.specs.SharpBoundary.{has_sharp_boundary}
use Rattle.level_topology.specs.Topology.{Topology}
use Rattle.level_topology.specs.Child.{ChildTopology}
use Rattle.level_walk.specs.declared.fault.Cause.{Cause}
use Rattle.level_walk.specs.declared.fault.Cause.TheVariants as cause
use Rattle.level_walk.specs.declared.fault.OverflowKind.TheVariants as kind
use Rattle.uniform_refiner.specs.Refined.{IsRefined}
use Rattle.uniform_refiner.specs.declared.fault.RefineFault.{RefineFault}
use Rattle.uniform_refiner.specs.declared.fault.RefineFault.TheVariants.{TooLarge, Chaikin, Memory}
use Rattle.level_walk.specs.UniformLevels.{Overflows}

-- A level from which all next ones can be made: each point is complete, and the boundary is infinitely sharp. It has at most
-- 2^28 points besides two for each face. The levels after it keep that bound, since a face has at least three corners.
pub record IsWhole (t : Topology) : Type 0 where
  pub complete : t.complete ≡ replicate t.level.point_count true
  pub points : t.level.point_count ≤ 2 ^ 28 + 2 * length t.level.polygons
  pub boundary : IsTrue (has_sharp_boundary t.level)

-- the step takes at most one count for each face of the next level
pub record AreFaceSteps (t : Topology) (old new : ℕ) : Type 0 where
  pub most : new ≤ old + sum_by length t.level.polygons
  pub later : old ≤ new

-- the whole next level
pub record IsMade (parent : Topology) (child : ChildTopology) (next : Topology) (old new : ℕ) : Type 0 where
  pub refined : IsRefined parent child
  pub next_is : next ≡ child.topology
  pub steps : AreFaceSteps parent old new

-- a fault of a refinement as the cause of a walk
abbrev pub cause_of : RefineFault → Cause
cause_of (TooLarge count) = cause.TooManyFaces count
cause_of (Chaikin v) = cause.Overflow kind.Chaikin
cause_of Memory = cause.Memory

-- the next level would have this many faces, above the bound, or halves overflow at some point; memory may run out at any
-- level
abbrev pub IsLevelCause : Level → Cause → Type 0
IsLevelCause level (cause.TooManyFaces count) = (count ≡ sum_by length level.polygons) × (2 ^ 22 < count)
IsLevelCause level (cause.Overflow kind.Chaikin) = Overflows level
IsLevelCause level (cause.Overflow kind.Transition) = ⊥
IsLevelCause level (cause.Overflow kind.Denominator) = ⊥
IsLevelCause level (cause.Overflow kind.Value) = ⊥
IsLevelCause level cause.TooManyEntries = ⊥
IsLevelCause level cause.Memory = Unit {0}

-- the cause that there is no next level
pub record IsRefused (parent : Topology) (cause : Cause) (old new : ℕ) : Type 0 where
  pub is : IsLevelCause parent.level cause
  pub steps : AreFaceSteps parent old new
