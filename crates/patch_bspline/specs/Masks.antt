-- The masks of a patch and the facts about its points.
use Rattle.std.specs.Prelude.{ℕ, ◌≡◌, ◌<◌, ◌≤◌, List}
use Rattle.subdiv_model.specs.Level.{Level}
use Rattle.subdiv_model.specs.Patch.{patch_points}
use Rattle.level_topology.specs.Topology.{Topology, IsTopology}
use Rattle.patch_bspline.specs.Patches.{HasPatch}

-- a face of a level, with the number of steps along each side of its patch
pub record PatchGrid : Type 0 where
  pub level : Level
  pub face : ℕ
  pub grid : ℕ

-- the face has a patch on this grid, with these points
pub record HasPoints (t : Topology) (face grid : ℕ) (points : List (List ℕ)) : Type 0 where
  pub topology : IsTopology t
  pub patch : HasPatch t.level face
  pub some : 0 < grid
  pub few : grid ≤ 64
  pub points_are : points ≡ patch_points t.level face
