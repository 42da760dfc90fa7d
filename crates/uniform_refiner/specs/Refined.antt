-- The result of a uniform refinement: the next level, or the fault.
use Rattle.std.specs.Prelude.{ℕ, ◌≡◌, ◌^◌, ◌<◌, ◌≤◌, true, false, length}
use Rattle.std.specs.List.{sum_by}
use Rattle.subdiv_model.specs.Channel.{chaikin_overflows_at}
use Rattle.level_topology.specs.Topology.{Topology}
use Rattle.level_topology.specs.Child.{ChildTopology}
use Rattle.uniform_refiner.specs.Uniform.{IsUniform}
use Rattle.uniform_refiner.specs.declared.fault.RefineFault.{RefineFault}
use Rattle.uniform_refiner.specs.declared.fault.RefineFault.TheVariants.{TooLarge, Chaikin, Memory}

-- the child is the whole next level, within the bound of faces, and no halves overflow
pub record IsRefined (parent : Topology) (child : ChildTopology) : Type 0 where
  pub uniform : IsUniform parent child
  pub few : sum_by length parent.level.polygons ≤ 2 ^ 22
  pub fine : (v : ℕ) → v < parent.level.point_count → chaikin_overflows_at parent.level v ≡ false

-- the next level is within the bound of faces, and this is the first point at which halves overflow
pub record OverflowsFirst (parent : Topology) (v : ℕ) : Type 0 where
  pub few : sum_by length parent.level.polygons ≤ 2 ^ 22
  pub exists : v < parent.level.point_count
  pub overflows : chaikin_overflows_at parent.level v ≡ true
  pub first : (u : ℕ) → u < v → chaikin_overflows_at parent.level u ≡ false

-- the next level has this number of faces, above the bound, or halves overflow at this point first; memory may run out at any
-- level
abbrev pub IsRefusal : Topology → RefineFault → Type 0
IsRefusal parent (TooLarge count) = (count ≡ sum_by length parent.level.polygons) × (2 ^ 22 < count)
IsRefusal parent (Chaikin v) = OverflowsFirst parent v
IsRefusal parent Memory = Unit {0}
