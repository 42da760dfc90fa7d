-- The record of a refused mesh in arrays.
use Rattle.std.specs.Prelude.{ℕ, ◌≡◌, ◌<◌, ◌≤◌, ◌⊎◌, List}
use Rattle.subdiv_model.specs.Fault.{Fault}
use Rattle.subdiv_model.specs.ObjMesh.{ObjMesh}
use Rattle.mesh_arrays.specs.Arrays.{mesh_of_arrays}
use Rattle.mesh_arrays.specs.Faults.{IsArraysFault, IsMeshOf}
use Rattle.mesh_arrays.specs.declared.arrays.MeshArrays.{MeshArrays}
use Rattle.mesh_arrays.specs.declared.fault.ArraysFault.{ArraysFault}
use Rattle.mesh_arrays.specs.declared.fault.ArraysFault.TheVariants as arrays
use Rattle.array_answers.specs.ArrayRecords.{row, record_of_bad_part}
use Rattle.array_answers.specs.RecordBack.{IsRecordOf}
use Rattle.array_answers.specs.declared.record.FaultRecord.{FaultRecord}
use Rattle.mesh_answers.specs.Refusals.{IsFound, refusal_by}

-- the faults of the options and tags of arrays come after the faults of a part
abbrev pub record_of_arrays : ArraysFault → FaultRecord
--                                                 status kind first second
record_of_arrays arrays.Boundary = row 17 13 0 0
record_of_arrays arrays.Method = row 17 14 0 0
record_of_arrays (arrays.CreaseSharpness place) = row 17 15 place 0
record_of_arrays (arrays.CornerSharpness place) = row 17 16 place 0
record_of_arrays (arrays.Part bad) = record_of_bad_part bad
record_of_arrays arrays.Memory = row 11 0 0 0

-- the depth is above 10
abbrev pub bad_depth : FaultRecord
bad_depth = row 19 0 0 0

-- the arrays are not a mesh
pub record AreNoMesh (mesh : MeshArrays) (found : FaultRecord) : Type 0 where
  pub fault : ArraysFault
  pub is : IsArraysFault mesh fault
  pub recorded : found ≡ record_of_arrays fault

-- the record of the mesh's first fault, given the faults of its levels
pub record IsRefusedBy (faults : List Fault) (mesh : ObjMesh) (found : FaultRecord) : Type 0 where
  pub fault : Fault
  pub is : IsFound fault (refusal_by faults mesh)
  pub recorded : IsRecordOf found fault

-- the record of the first fault: of the depth, then of the arrays, then of their mesh, given the faults of its levels up to the depth
abbrev pub IsRefusal : ℕ → List Fault → MeshArrays → FaultRecord → Type 0
IsRefusal depth faults mesh found =
    ((10 < depth) × (found ≡ bad_depth))
    ⊎ (((depth ≤ 10) × AreNoMesh mesh found)
    ⊎ ((depth ≤ 10) × IsMeshOf mesh (mesh_of_arrays mesh) × IsRefusedBy faults (mesh_of_arrays mesh) found))
