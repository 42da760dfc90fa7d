-- The limit points of a mesh at a depth.
use Rattle.std.specs.Prelude.{ℕ, ◌≡◌, ◌*◌, ◌≤◌, true, false, max, replicate, Option, None, Result, MatchResult, Vec}
use Rattle.std.specs.Global.{Global}
use Rattle.subdiv_model.specs.Base.{base_level}
use Rattle.subdiv_model.specs.Child.{refined_level}
use Rattle.subdiv_model.specs.ObjMesh.{ObjMesh}
use Rattle.subdiv_model.specs.Fault as model
use Rattle.subdiv_model.specs.Fault.{Fault, Limit, TooLarge, LimitEntries, Overflow, LimitRows, DenominatorOverflow}
use Rattle.subdiv_model.specs.Limit.{limit_faults, limit_masks}
use Rattle.far_model.specs.Answer.{positions_of}
use Rattle.stencil_apply.specs.Means.{word_bound}
use Rattle.limit_stencils.specs.Limits.{IsDenominatorBound}
use Rattle.limit_stencils.specs.declared.fault.QuadFault.{QuadFault}
use Rattle.limit_stencils.specs.declared.fault.QuadFault.TheVariants.{Dart, SemiSharp, Denominator, TooManyEntries, Memory}
use Rattle.channel_refine.specs.declared.compose.ComposedChannel.{ComposedChannel}
use Rattle.far_fault.specs.View.{fault_of}
use Rattle.far_fault.specs.declared.fault.FarFault.{FarFault}
use Rattle.mesh_answers.specs.Refusals.{IsFound}
use Rattle.mesh_answers.specs.MaskTables.{IsMaskTable, refusal_behind_table}
use Rattle.far_text.specs.declared.reply.Reply.{Reply}
use Rattle.far_text.specs.declared.reply.Reply.TheVariants.{Refined}
use Rattle.level_topology.specs.Topology.{Topology}
use Rattle.ratio128.specs.declared.point.Point3.{Point3}
use Rattle.ratio128.specs.declared.valued.Valued.{Valued}

-- the refusal of a mesh by the command for limit points at a depth
abbrev pub limit_refusal : ℕ → ObjMesh → Option Fault
limit_refusal depth mesh = refusal_behind_table (limit_faults (positions_of mesh) depth) mesh depth

-- the fault of a run for a fault of the table of limit points at a depth
abbrev pub limit_fault_of : ℕ → QuadFault → Fault
limit_fault_of depth (Dart v) = Limit (model.Dart v)
limit_fault_of depth (SemiSharp v) = Limit (model.SemiSharp v)
limit_fault_of depth (Denominator v) = Overflow LimitRows depth DenominatorOverflow
limit_fault_of depth TooManyEntries = TooLarge LimitEntries
limit_fault_of depth Memory = model.Memory

-- the mesh is not refused, and this is its level at a depth, of complete points, with the table of its limit points
pub record AreLimitRows (mesh : ObjMesh) (depth : ℕ) (limits : ComposedChannel) : Type 0 where
  pub good : limit_refusal depth mesh ≡ None
  pub level_is : limits.level.level ≡ refined_level (base_level mesh) depth
  pub complete : limits.level.complete ≡ replicate limits.level.level.point_count true
  pub rows : IsMaskTable mesh depth (limit_masks (refined_level (base_level mesh) depth)) limits.table

-- the level with this table, or the refusal of the mesh
abbrev pub IsLimitComposition : ObjMesh → ℕ → Result ComposedChannel FarFault → Type 0
IsLimitComposition mesh depth result = MatchResult result (AreLimitRows mesh depth) (λ fault. IsFound (fault_of fault) (limit_refusal depth mesh))

-- The level's limit points fit 64 bits: no common denominator of one passes this number, and its product with the greatest amount of the
-- mesh's points, or with their common denominator, is at most 2^63 - 1.
pub record HasShortLimits (mesh : ObjMesh) (composed : ComposedChannel) : Type 0 where
  pub bound : ℕ
  pub is : IsDenominatorBound composed.level.level composed.table bound
  pub fits : bound * max (positions_of mesh).greatest (positions_of mesh).common ≤ word_bound

-- the reply with a level of a mesh and its limit points
abbrev pub limit_reply : ObjMesh → Option ℕ → Topology → Vec (Valued Point3) Global → Reply
limit_reply mesh decimals level values =
    Refined (record { level = level; values = values; common = mesh.common; texture = None }) (record { decimals = decimals; tags = false })
