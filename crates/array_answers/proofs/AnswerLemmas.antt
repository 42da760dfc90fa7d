-- The result for the mesh of arrays is the result for the arrays.
use Rattle.std.proofs.Common.{◌≡◌, ℕ, ◌≤◌, None, inr, List, map, subst, sym, ap, ◌∙◌, ◌<◌}
use Rattle.std.specs.List.{All}
use Rattle.ratio128.specs.declared.point.Point3.{Point3}
use Rattle.ratio128.specs.declared.valued.Valued.{Valued}
use Rattle.raw_mesh.specs.View as reader
use Rattle.subdiv_model.specs.Fault.{Fault}
use Rattle.subdiv_model.specs.ObjMesh.{ObjMesh}
use Rattle.subdiv_model.specs.Channel.{Tables, denominators_after}
use Rattle.far_model.specs.Answer.{table_faults, positions_of}
use Rattle.stencil_apply.specs.Table.{IsTable}
use Rattle.primvar_refine.specs.View.{rows_of}
use Rattle.channel_refine.specs.Evaluated.{evaluated}
use Rattle.channel_refine.specs.View.{composed_of}
use Rattle.channel_refine.specs.Evaluated.{CanEvaluate, control_rows}
use Rattle.channel_refine.specs.Refined.{IsRefinedTo}
use Rattle.channel_refine.specs.declared.compose.ComposedChannel.{ComposedChannel}
use Rattle.channel_refine.proofs.EvaluatedLemmas.{can-evaluate, evaluated-to}
use Rattle.channel_refine.proofs.ValueLemmas.{dens-of-rows}
use Rattle.mesh_answers.specs.Tables.{IsComposedOf}
use Rattle.mesh_answers.specs.Refusals.{IsFound, refusal_by}
use Rattle.mesh_answers.specs.Tracks.{AreRefined}
use Rattle.mesh_answers.proofs.PointLemmas.{numbers}
use Rattle.mesh_answers.proofs.PositionLemmas.{point-controls, refined-points}
use Rattle.far_text.specs.Points.{CanBeWritten}
use Rattle.mesh_arrays.specs.Points.{CanBePut}
use Rattle.mesh_arrays.specs.Arrays.{mesh_of_arrays}
use Rattle.mesh_arrays.specs.Faults.{IsMeshOf}
use Rattle.mesh_arrays.specs.declared.arrays.MeshArrays.{MeshArrays}
use Rattle.array_answers.specs.RecordBack.{IsRecordOf}
use Rattle.array_answers.specs.declared.record.FaultRecord.{FaultRecord}
use Rattle.mesh_check.specs.declared.fault.MeshFault.{MeshFault}
use Rattle.mesh_arrays.specs.declared.fault.ArraysFault.TheVariants as arrays_fault
use Rattle.array_answers.specs.ArrayRecords.{row}
use Rattle.array_answers.specs.Refused.{IsRefusal, AreNoMesh}
use Rattle.array_answers.specs.Faults.{AreListed, AreFaultsOf}
use Rattle.array_answers.specs.Composed.{ArePointsOf}
use Rattle.array_answers.specs.declared.points.RefinedPoints.{RefinedPoints}

-- their mesh is refused
pub refused : (depth : ℕ) (arrays : MeshArrays) (mesh : ObjMesh) (fault : Fault) (found : FaultRecord) → depth ≤ 10 → IsMeshOf arrays mesh
    → IsFound fault (refusal_by (table_faults depth mesh) mesh) → IsRecordOf found fault
    → IsRefusal depth (table_faults depth (mesh_of_arrays arrays)) arrays found
refused depth arrays mesh fault found few good is recorded =
    inr (inr (few, subst (IsMeshOf arrays) good.same good, record { fault = fault; is = subst (λ m. IsFound fault (refusal_by (table_faults depth m) m)) good.same is; recorded = recorded }))

-- The points of a mesh whose table was composed.
module _ (mesh : ObjMesh) (depth : ℕ) (composed : ComposedChannel) (points : List Point3) (is : IsComposedOf mesh depth composed) (made : IsTable composed.table) (said : map reader.point_of points ≡ mesh.points) where
  pub can-be-evaluated : CanEvaluate composed.table (map numbers points)
  can-be-evaluated = can-evaluate (positions_of mesh) depth (composed_of composed) is.composed made (map numbers points) (point-controls mesh points said)

  evaluated-rows : (values : List (Valued Point3)) → rows_of numbers values ≡ evaluated composed.table (map numbers points)
      → IsRefinedTo Tables (positions_of mesh) (control_rows (map numbers points)) depth (record { level = composed.level; rows = rows_of numbers values })
  evaluated-rows values rows =
      subst (λ r. IsRefinedTo Tables (positions_of mesh) (control_rows (map numbers points)) depth (record { level = composed.level; rows = r })) (sym rows)
      (evaluated-to (positions_of mesh) depth (composed_of composed) is.composed made (map numbers points) (point-controls mesh points said))

  pub refined : (values : List (Valued Point3)) → 0 < mesh.common → rows_of numbers values ≡ evaluated composed.table (map numbers points) → AreRefined Tables mesh depth composed.level values
  refined values some rows = refined-points Tables mesh points depth composed.level values said some (evaluated-rows values rows)

  -- the denominators are those of the rows
  pub dens-are : (values : List (Valued Point3)) → rows_of numbers values ≡ evaluated composed.table (map numbers points)
      → map (λ value. value.den) values ≡ denominators_after (positions_of mesh) depth
  dens-are values rows = dens-of-rows numbers values ∙ (evaluated-rows values rows).dens

can-be-put : (common : ℕ) (p : Valued Point3) → CanBeWritten common p → CanBePut common p
can-be-put common p w = record { positive = w.positive; short = w.short; x = w.x; y = w.y; z = w.z }

pub all-can-be-put : (common : ℕ) (values : List (Valued Point3)) → All (CanBeWritten common) values → All (CanBePut common) values
all-can-be-put common values written k d h = can-be-put common _ (written k d h)

-- the points of arrays
pub points-found : (arrays : MeshArrays) (depth : ℕ) (mesh : ObjMesh) (composed : ComposedChannel) (found : RefinedPoints) → depth ≤ 10 → IsMeshOf arrays mesh → IsComposedOf mesh depth composed
    → found.common ≡ mesh.common → AreRefined Tables mesh depth composed.level found.points.items
    → map (λ point. point.den) found.points.items ≡ denominators_after (positions_of mesh) depth → ArePointsOf arrays depth found
points-found arrays depth mesh composed found few good is common are dens = record {
  few = few;
  good = subst (IsMeshOf arrays) good.same good;
  fine = subst (λ m. refusal_by (table_faults depth m) m ≡ None) good.same is.good;
  common = common ∙ ap (λ (m : ObjMesh). m.common) good.same;
  level = composed.level;
  points = subst (λ m. AreRefined Tables m depth composed.level found.points.items) good.same are;
  dens = dens ∙ ap (λ m. denominators_after (positions_of m) depth) good.same;
  put = all-can-be-put found.common found.points.items (subst (λ n. All (CanBeWritten n) found.points.items) (sym common) are.written);
}

-- the faults of the mesh are the faults of the arrays
pub faults-found : (arrays : MeshArrays) (mesh : ObjMesh) (faults : List MeshFault) → IsMeshOf arrays mesh → AreListed mesh faults → AreFaultsOf arrays faults
faults-found arrays mesh faults good listed = record { good = subst (IsMeshOf arrays) good.same good; listed = subst (λ m. AreListed m faults) good.same listed }

-- memory may run out at any arrays
pub no-memory : (arrays : MeshArrays) (found : FaultRecord) → found ≡ row 11 0 0 0 → AreNoMesh arrays found
no-memory arrays found is = record { fault = arrays_fault.Memory; is = tt; recorded = is }
