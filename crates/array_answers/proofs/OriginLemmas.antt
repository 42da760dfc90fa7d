-- The result for the levels of the mesh of arrays is the result for the arrays.
use Rattle.std.proofs.Common.{ℕ, ◌≤◌, inr, subst}
use Rattle.subdiv_model.specs.Fault.{Fault}
use Rattle.subdiv_model.specs.ObjMesh.{ObjMesh}
use Rattle.far_model.specs.Command.{Levels}
use Rattle.level_walk.specs.declared.origin.Origins.{Origins}
use Rattle.mesh_answers.specs.Origins.{AreOriginsOf}
use Rattle.mesh_answers.specs.Refusals.{IsFound, refusal_of_mesh}
use Rattle.mesh_arrays.specs.Faults.{IsMeshOf}
use Rattle.mesh_arrays.specs.declared.arrays.MeshArrays.{MeshArrays}
use Rattle.array_answers.specs.RecordBack.{IsRecordOf}
use Rattle.array_answers.specs.declared.record.FaultRecord.{FaultRecord}
use Rattle.array_answers.specs.Origins.{AreOriginsOfArrays, IsLevelsRefusal}

-- the mesh is refused
pub levels-refused : (depth : ℕ) (arrays : MeshArrays) (mesh : ObjMesh) (fault : Fault) (found : FaultRecord) → depth ≤ 10 → IsMeshOf arrays mesh → IsFound fault (refusal_of_mesh (Levels depth) mesh)
    → IsRecordOf found fault → IsLevelsRefusal arrays depth found
levels-refused depth arrays mesh fault found few good is recorded =
    inr (inr (few, subst (IsMeshOf arrays) good.same good, record { fault = fault; is = subst (λ m. IsFound fault (refusal_of_mesh (Levels depth) m)) good.same is; recorded = recorded }))

-- its levels have origins
pub origins-found : (arrays : MeshArrays) (depth : ℕ) (mesh : ObjMesh) (origins : Origins) → depth ≤ 10 → IsMeshOf arrays mesh → AreOriginsOf mesh depth origins
    → AreOriginsOfArrays arrays depth origins
origins-found arrays depth mesh origins few good are = record {
  few = few;
  good = subst (IsMeshOf arrays) good.same good;
  origins_are = subst (λ m. AreOriginsOf m depth origins) good.same are;
}
