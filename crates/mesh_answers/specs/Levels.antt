-- The levels of a checked mesh.
use Rattle.std.specs.Prelude.{ℕ, ◌≡◌, ◌+◌, List, ◌++◌, length, None, map}
use Rattle.std.specs.List.{range_with_len}
use Rattle.subdiv_model.specs.Lists.{first_of}
use Rattle.subdiv_model.specs.MeshFault.{first_mesh_fault}
use Rattle.subdiv_model.specs.Base.{base_level}
use Rattle.subdiv_model.specs.Child.{refined_level}
use Rattle.far_model.specs.Command.{Levels}
use Rattle.subdiv_model.specs.Fault.{Fault}
use Rattle.subdiv_model.specs.Limits.{count_faults, level_count_faults}
use Rattle.subdiv_model.specs.ObjMesh.{ObjMesh}
use Rattle.level_topology.specs.Topology.{Topology}
use Rattle.mesh_check.specs.Checked.{IsAccepted}
use Rattle.level_walk.specs.declared.counts.LevelCounts.{LevelCounts}
use Rattle.level_walk.specs.Counts.{counts_of}
use Rattle.level_walk.specs.CountsView.{seen_counts}
use Rattle.mesh_answers.specs.Refusals.{refusal_by, refusal_of_mesh, IsFound}

-- the mesh is a manifold, and its counts and the faces of its levels up to a depth are within their limits
pub record IsSmallManifold (depth : ℕ) (mesh : ObjMesh) : Type 0 where
  pub manifold : first_mesh_fault (length mesh.points) mesh.faces ≡ None
  pub small : first_of (count_faults mesh) ≡ None
  pub few : first_of (level_count_faults mesh.faces depth) ≡ None

-- this is level 0 of a mesh that is within its limits
pub record IsLevelWithin (depth : ℕ) (mesh : ObjMesh) (level : Topology) : Type 0 where
  pub accepted : IsAccepted mesh level
  pub few : first_of (level_count_faults mesh.faces depth) ≡ None

-- a fault of the mesh or of the counts of its levels is the refusal of each command that looks at these first
abbrev pub IsFoundWithin : ℕ → ObjMesh → Fault → Type 0
IsFoundWithin depth mesh fault = (others : List Fault) → IsFound fault (refusal_by (level_count_faults mesh.faces depth ++ others) mesh)

-- the mesh is not refused, and these are the counts of its levels from 0 to a depth
pub record AreCounted (mesh : ObjMesh) (depth : ℕ) (counts : List LevelCounts) : Type 0 where
  pub good : refusal_of_mesh (Levels depth) mesh ≡ None
  pub counts_are : map seen_counts counts ≡ map (λ k. counts_of (refined_level (base_level mesh) k)) (range_with_len 0 (depth + 1))
