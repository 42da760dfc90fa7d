-- The table of a mesh at a depth, and the summary of a sheet.
use Rattle.std.specs.Prelude.{ℕ, ◌≡◌, ◌*◌, ◌<◌, ◌≤◌, None, Result, MatchResult}
use Rattle.subdiv_model.specs.ObjMesh.{ObjMesh}
use Rattle.far_model.specs.Answer.{positions_of, table_faults, generated_text}
use Rattle.stencil_apply.specs.Table.{Table, IsTable, greatest_of}
use Rattle.channel_refine.specs.Composed.{IsComposedTo}
use Rattle.channel_refine.specs.View.{composed_of}
use Rattle.channel_refine.specs.declared.compose.ComposedChannel.{ComposedChannel}
use Rattle.far_text.specs.Summary.{CanSummaryBeWritten, summary_text}
use Rattle.far_text.specs.declared.summary.Summary.{Summary}
use Rattle.far_fault.specs.View.{fault_of}
use Rattle.far_fault.specs.declared.fault.FarFault.{FarFault}
use Rattle.mesh_answers.specs.Refusals.{IsFound, refusal_by}
use Rattle.subdiv_model.specs.Channel.{number_bound}
use Rattle.subdiv_model.specs.Fault.{Fault}

-- the mesh is not refused, and this is its level with the table
pub record IsComposedOf (mesh : ObjMesh) (depth : ℕ) (channel : ComposedChannel) : Type 0 where
  pub good : refusal_by (table_faults depth mesh) mesh ≡ None
  pub composed : IsComposedTo (positions_of mesh) depth (composed_of channel)
  pub made : IsTable channel.table

-- the table, or the refusal of the mesh
abbrev pub IsComposition : ObjMesh → ℕ → Result ComposedChannel FarFault → Type 0
IsComposition mesh depth result = MatchResult result (IsComposedOf mesh depth) (λ fault. IsFound (fault_of fault) (refusal_by (table_faults depth mesh) mesh))

-- the mesh is not refused, and this is the summary of its level and its table
pub record IsSummaryOf (mesh : ObjMesh) (depth : ℕ) (summary : Summary) : Type 0 where
  pub good : refusal_by (table_faults depth mesh) mesh ≡ None
  pub says : summary_text summary ≡ generated_text mesh depth
  pub written : CanSummaryBeWritten summary

-- the same table, whose greatest denominator times this amount is within the bound
abbrev pub IsFitting : Table → ℕ → Table → Type 0
IsFitting table most found = (found ≡ table) × IsTable table × (greatest_of table * most ≤ number_bound)

-- this overflow, where the greatest denominator of a table times this amount is past the bound
abbrev pub IsUnfitting : Table → ℕ → Fault → FarFault → Type 0
IsUnfitting table most overflow fault = (fault_of fault ≡ overflow) × IsTable table × (number_bound < greatest_of table * most)
