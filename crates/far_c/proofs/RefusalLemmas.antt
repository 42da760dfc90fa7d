-- No refusal has the status of a call that was done, or that found an array too short.
use Rattle.std.proofs.Common.{ℕ, ◌≡◌, ◌≤◌, ◌<◌, List, Option, Some, None, inl, inr, sym, subst, arith, lit≤}
use Rattle.subdiv_model.specs.Fault.{Fault}
use Rattle.subdiv_model.specs.ObjMesh.{ObjMesh}
use Rattle.far_model.specs.Command.{SparseOptions}
use Rattle.mesh_arrays.specs.declared.arrays.MeshArrays.{MeshArrays}
use Rattle.mesh_arrays.specs.declared.fault.ArraysFault.{ArraysFault}
use Rattle.mesh_arrays.specs.declared.fault.ArraysFault.TheVariants as arrays
use Rattle.array_answers.specs.declared.record.FaultRecord.{FaultRecord}
use Rattle.array_answers.proofs.RecordStatusLemmas.{part-status, record-status}
use Rattle.array_answers.specs.Asked.{Rows}
use Rattle.array_answers.specs.Refused.{AreNoMesh, IsRefusedBy, IsRefusal, record_of_arrays, bad_depth}
use Rattle.array_answers.specs.Rows as rows
use Rattle.array_answers.specs.Sparse.{IsSparseRefused}
use Rattle.table_arrays.specs.Texts.{IsRefusedFor}
use Rattle.table_arrays.specs.Rows as stored
use Rattle.table_arrays.specs.Checked.{IsNotOwn}
use Rattle.table_arrays.specs.declared.exact_rows.ExactRows.{ExactRows}

-- whatever is written, it is not written on such a status
pub none-kept : (status : ℕ) → 2 ≤ status → (old new : FaultRecord) → status < 2 → new ≡ old
none-kept status many old new few = absurd (omega (arith, many, few))

same-status : (found other : FaultRecord) → found ≡ other → 2 ≤ other.status → 2 ≤ found.status
same-status found other same many = subst (λ (it : FaultRecord). 2 ≤ it.status) (sym same) many

arrays-status : (fault : ArraysFault) → 2 ≤ (record_of_arrays fault).status
arrays-status arrays.Boundary = lit≤ tt
arrays-status arrays.Method = lit≤ tt
arrays-status (arrays.CreaseSharpness place) = lit≤ tt
arrays-status (arrays.CornerSharpness place) = lit≤ tt
arrays-status (arrays.Part bad) = part-status bad
arrays-status arrays.Memory = lit≤ tt

pub no-mesh-status : (mesh : MeshArrays) (found : FaultRecord) → AreNoMesh mesh found → 2 ≤ found.status
no-mesh-status mesh found is = same-status found (record_of_arrays is.fault) is.recorded (arrays-status is.fault)

refused-status : (faults : List Fault) (mesh : ObjMesh) (found : FaultRecord) → IsRefusedBy faults mesh found → 2 ≤ found.status
refused-status faults mesh found is = record-status found is.fault is.recorded

pub refusal-status : (depth : ℕ) (faults : List Fault) (mesh : MeshArrays) (found : FaultRecord) → IsRefusal depth faults mesh found → 2 ≤ found.status
refusal-status depth faults mesh found (inl deep) = same-status found bad_depth deep.1 (lit≤ tt)
refusal-status depth faults mesh found (inr (inl none)) = no-mesh-status mesh found none.1
refusal-status depth faults mesh found (inr (inr refused)) = refused-status faults _ found refused.2

rows-status : (asked : Rows) (mesh : ObjMesh) (found : FaultRecord) → rows.AreRowsRefused asked mesh found → 2 ≤ found.status
rows-status asked mesh found (inl refused) = refused-status (rows.row_faults asked mesh) mesh found refused
rows-status asked mesh found (inr lacks) = same-status found rows.bad_request lacks.1 (lit≤ tt)

pub request-status : (asked : Option Rows) (mesh : MeshArrays) (found : FaultRecord) → rows.IsRequestRefused asked mesh found → 2 ≤ found.status
request-status None mesh found bad = same-status found rows.bad_request bad (lit≤ tt)
request-status (Some asked) mesh found (inl none) = no-mesh-status mesh found none
request-status (Some asked) mesh found (inr refused) = rows-status asked _ found refused.1

pub sparse-status : (asked : Option SparseOptions) (mesh : MeshArrays) (found : FaultRecord) → IsSparseRefused asked mesh found → 2 ≤ found.status
sparse-status None mesh found bad = same-status found rows.bad_request bad (lit≤ tt)
sparse-status (Some options) mesh found (inl none) = no-mesh-status mesh found none
sparse-status (Some options) mesh found (inr refused) = refused-status _ _ found refused.1

pub read-status : (refusal : Option Fault) (found : FaultRecord) → IsRefusedFor refusal found → 2 ≤ found.status
read-status refusal found is = record-status found is.fault is.recorded

pub write-status : (given : ExactRows) (found : FaultRecord) → stored.AreRowsRefused given found → 2 ≤ found.status
write-status given found (inl shape) = same-status found stored.bad_shape shape.1 (lit≤ tt)
write-status given found (inr (inl row)) = same-status found (stored.bad_row row.place) row.recorded (lit≤ tt)
write-status given found (inr (inr memory)) = same-status found stored.no_memory memory (lit≤ tt)

pub check-status : (mesh : MeshArrays) (depth : ℕ) (text : List ℕ) (found : FaultRecord) → IsNotOwn mesh depth text found → 2 ≤ found.status
check-status mesh depth text found (inl refused) = refusal-status depth _ mesh found refused
check-status mesh depth text found (inr is) = read-status _ found is.refused
