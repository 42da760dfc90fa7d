-- The origins of the level of a mesh in arrays at a depth.
use Rattle.std.specs.Prelude.{ℕ, ◌≤◌, Result, MatchResult}
use Rattle.far_model.specs.Command.{Levels}
use Rattle.far_model.specs.Answer.{command_faults}
use Rattle.level_walk.specs.declared.origin.Origins.{Origins}
use Rattle.mesh_answers.specs.Origins.{AreOriginsOf}
use Rattle.mesh_arrays.specs.Arrays.{mesh_of_arrays}
use Rattle.mesh_arrays.specs.Faults.{IsMeshOf}
use Rattle.mesh_arrays.specs.declared.arrays.MeshArrays.{MeshArrays}
use Rattle.array_answers.specs.declared.record.FaultRecord.{FaultRecord}
use Rattle.array_answers.specs.Refused.{IsRefusal}

-- the arrays are a mesh that is not refused at the depth, and these are the origins of its level there
pub record AreOriginsOfArrays (mesh : MeshArrays) (depth : ℕ) (origins : Origins) : Type 0 where
  pub few : depth ≤ 10
  pub good : IsMeshOf mesh (mesh_of_arrays mesh)
  pub origins_are : AreOriginsOf (mesh_of_arrays mesh) depth origins

-- the command `levels` refuses the mesh of the arrays, and this is the record
abbrev pub IsLevelsRefusal : MeshArrays → ℕ → FaultRecord → Type 0
IsLevelsRefusal mesh depth found = IsRefusal depth (command_faults (Levels depth) (mesh_of_arrays mesh)) mesh found

-- the origins, or the record of the mesh's fault
abbrev pub AreArrayOrigins : MeshArrays → ℕ → Result Origins FaultRecord → Type 0
AreArrayOrigins mesh depth result = MatchResult result (AreOriginsOfArrays mesh depth) (IsLevelsRefusal mesh depth)
