-- The facts of a level while its next level is made.
use Rattle.std.specs.Prelude.{ℕ, ◌≡◌, ◌^◌, ◌<◌, ◌≤◌, true, false, List, length, get_or}
use Rattle.std.specs.List.{sum_by}
use Rattle.subdiv_model.specs.Sharpness.{Sharpness}
use Rattle.level_topology.specs.Topology.{Topology}
use Rattle.child_slots.specs.Slotted.{Slotted}
use Rattle.uniform_refiner.specs.Put.{AreChildEdges, HasAllHalves}

-- all points are complete, and the next level keeps the bounds of faces and points
pub record IsRefinable (t : Topology) : Type 0 where
  pub whole : (v : ℕ) → v < t.level.point_count → get_or t.complete v false ≡ true
  pub few : sum_by length t.level.polygons ≤ 2 ^ 22
  pub short : t.level.point_count ≤ 2 ^ 29

-- the level can be refined, its child edges are numbered, and each half has its sharpness at its slot
pub record IsNumbered (t : Topology) (n : Slotted) (table : List Sharpness) : Type 0 where
  pub refinable : IsRefinable t
  pub edges : AreChildEdges t.level n
  pub halves : HasAllHalves t.level table
