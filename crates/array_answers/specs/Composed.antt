-- The level of a mesh in arrays at a depth, with its table and its points.
use Rattle.std.specs.Prelude.{ℕ, ◌≡◌, ◌≤◌, None, map, Result, MatchResult}
use Rattle.far_model.specs.Answer.{positions_of, table_faults}
use Rattle.mesh_answers.specs.Tables.{IsComposedOf}
use Rattle.mesh_arrays.specs.Arrays.{mesh_of_arrays}
use Rattle.mesh_arrays.specs.Faults.{IsMeshOf}
use Rattle.mesh_arrays.specs.declared.arrays.MeshArrays.{MeshArrays}
use Rattle.array_answers.specs.declared.record.FaultRecord.{FaultRecord}
use Rattle.array_answers.specs.Refused.{IsRefusal}
use Rattle.array_answers.specs.declared.compose.RefinedArrays.{RefinedArrays}
use Rattle.array_answers.specs.declared.points.RefinedPoints.{RefinedPoints}
use Rattle.std.specs.List.{All}
use Rattle.subdiv_model.specs.Channel.{Tables, denominators_after}
use Rattle.level_topology.specs.Topology.{Topology}
use Rattle.mesh_answers.specs.Refusals.{refusal_by}
use Rattle.mesh_answers.specs.Tracks.{AreRefined}
use Rattle.mesh_arrays.specs.Points.{CanBePut}

-- the arrays are a mesh, and this is its level at the depth with its table
pub record IsRefinedOf (mesh : MeshArrays) (depth : ℕ) (refined : RefinedArrays) : Type 0 where
  pub few : depth ≤ 10
  pub good : IsMeshOf mesh refined.mesh
  pub composed : IsComposedOf refined.mesh depth refined.composed

-- the level with its table, or the record of the mesh's fault
abbrev pub IsRefinement : MeshArrays → ℕ → Result RefinedArrays FaultRecord → Type 0
IsRefinement mesh depth result =
    MatchResult result (IsRefinedOf mesh depth) (IsRefusal depth (table_faults depth (mesh_of_arrays mesh)) mesh)

-- The arrays are a mesh that is not refused at the depth, and these are its points there, over its common denominator. The own denominator
-- of a point is that of its row in the table of the level.
pub record ArePointsOf (mesh : MeshArrays) (depth : ℕ) (refined : RefinedPoints) : Type 0 where
  pub few : depth ≤ 10
  pub good : IsMeshOf mesh (mesh_of_arrays mesh)
  pub fine : refusal_by (table_faults depth (mesh_of_arrays mesh)) (mesh_of_arrays mesh) ≡ None
  pub common : refined.common ≡ (mesh_of_arrays mesh).common
  pub level : Topology
  pub points : AreRefined Tables (mesh_of_arrays mesh) depth level refined.points.items
  pub dens : map (λ point. point.den) refined.points.items ≡ denominators_after (positions_of (mesh_of_arrays mesh)) depth
  pub put : All (CanBePut refined.common) refined.points.items

-- the points, or the record of the mesh's fault
abbrev pub ArePointsFound : MeshArrays → ℕ → Result RefinedPoints FaultRecord → Type 0
ArePointsFound mesh depth result =
    MatchResult result (ArePointsOf mesh depth) (IsRefusal depth (table_faults depth (mesh_of_arrays mesh)) mesh)
