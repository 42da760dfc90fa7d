-- The result of the call for all faults of a mesh.
use Rattle.std.specs.Prelude.{ℕ, ◌≡◌, ◌<◌, List, ◌++◌, length, drop}
use Rattle.subdiv_model.specs.MeshFault.{MeshFault}
use Rattle.mesh_check.specs.Listed.{listed_faults}
use Rattle.mesh_arrays.specs.Arrays.{mesh_of_arrays}
use Rattle.mesh_arrays.specs.Faults.{IsMeshOf}
use Rattle.mesh_arrays.specs.declared.arrays.MeshArrays.{MeshArrays}
use Rattle.array_answers.specs.MeshFaults.{records_of}
use Rattle.array_answers.specs.declared.record.FaultRecord.{FaultRecord}
use Rattle.array_answers.specs.Refused.{AreNoMesh}
use Rattle.far_c.specs.Status.{IsStatus}

-- all faults of the mesh of the arrays
abbrev pub faults_of : MeshArrays → List MeshFault
faults_of mesh = listed_faults (length (mesh_of_arrays mesh).points) (mesh_of_arrays mesh).faces

-- the arrays are a mesh with this number of faults, and `Holds` is true
pub record HasFaults (mesh : MeshArrays) (count : ℕ) (Holds : Type 0) : Type 0 where
  pub good : IsMeshOf mesh (mesh_of_arrays mesh)
  pub counted : count ≡ length (faults_of mesh)
  pub holds : Holds

-- the records of the faults are written to the front, or only their number if the array is too short
abbrev pub AnswersFaults : MeshArrays → ℕ → ℕ → List FaultRecord → List FaultRecord → FaultRecord → Type 0
AnswersFaults mesh status count old new fault =
    IsStatus status
    (HasFaults mesh count (new ≡ records_of (faults_of mesh) ++ drop count old))
    (HasFaults mesh count ((length old < count) × (new ≡ old)))
    (λ found. AreNoMesh mesh found × (new ≡ old)) fault
