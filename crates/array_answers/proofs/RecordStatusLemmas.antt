-- No fault has the status of a call that was done, or that found an array too short.
use Rattle.std.proofs.Common.{ℕ, ◌≤◌, subst, lit≤}
use Rattle.subdiv_model.specs.MeshFault.{MeshFault, FaceTooSmall, RepeatedVertex, NonManifoldEdge, WindingClash, SplitVertex}
use Rattle.subdiv_model.specs.Fault.{Counted, Points, Faces, FaceSize, Valence, LevelFaces, Entries, LimitEntries, PatchEntries, LimitCause, Dart, SemiSharp, PlaceFault, NoFace, NotRegular, NoCorner, IsHole, Fault, Usage, Read, Long, Obj, Mesh, TooLarge, Overflow, Limit, Place, Table, Differs, Controls, Write, Memory}
use Rattle.raw_mesh.specs.declared.fault.BadPart.{BadPart}
use Rattle.raw_mesh.specs.declared.fault.BadPart.TheVariants as part
use Rattle.nearest_float.specs.declared.fault.FloatFault.{FloatFault}
use Rattle.nearest_float.specs.declared.fault.FloatFault.TheVariants.{NotFinite, TooWide}
use Rattle.array_answers.specs.ArrayRecords.{record_of_bad_part, record_of_bad_number}
use Rattle.array_answers.specs.RecordBack.{IsRecordOf}
use Rattle.array_answers.specs.RecordTable.{record_of, mesh_record, counted_record, limit_record, place_record}
use Rattle.array_answers.specs.declared.record.FaultRecord.{FaultRecord}

mesh-status : (fault : MeshFault) → 2 ≤ (mesh_record fault).status
mesh-status (FaceTooSmall face) = lit≤ tt
mesh-status (RepeatedVertex face) = lit≤ tt
mesh-status (NonManifoldEdge a b) = lit≤ tt
mesh-status (WindingClash a b) = lit≤ tt
mesh-status (SplitVertex vertex) = lit≤ tt

counted-status : (counted : Counted) → 2 ≤ (counted_record counted).status
counted-status (Points count) = lit≤ tt
counted-status (Faces count) = lit≤ tt
counted-status (FaceSize face size) = lit≤ tt
counted-status (Valence vertex count) = lit≤ tt
counted-status (LevelFaces level count) = lit≤ tt
counted-status (Entries level) = lit≤ tt
counted-status LimitEntries = lit≤ tt
counted-status PatchEntries = lit≤ tt

limit-status : (cause : LimitCause) → 2 ≤ (limit_record cause).status
limit-status (Dart vertex) = lit≤ tt
limit-status (SemiSharp vertex) = lit≤ tt

place-status : (fault : PlaceFault) → 2 ≤ (place_record fault).status
place-status (NoFace count) = lit≤ tt
place-status (NotRegular face) = lit≤ tt
place-status (NoCorner count) = lit≤ tt
place-status (IsHole face) = lit≤ tt

pub fault-status : (fault : Fault) → 2 ≤ (record_of fault).status
fault-status (Usage word) = lit≤ tt
fault-status Read = lit≤ tt
fault-status Long = lit≤ tt
fault-status (Obj fault) = lit≤ tt
fault-status (Mesh fault) = mesh-status fault
fault-status (TooLarge counted) = counted-status counted
fault-status (Overflow track level kind) = lit≤ tt
fault-status (Limit cause) = limit-status cause
fault-status (Place fault) = place-status fault
fault-status (Table fault) = lit≤ tt
fault-status (Differs place) = lit≤ tt
fault-status (Controls count) = lit≤ tt
fault-status Write = lit≤ tt
fault-status Memory = lit≤ tt

pub record-status : (held : FaultRecord) (fault : Fault) → IsRecordOf held fault → 2 ≤ held.status
record-status held fault is = subst (λ (it : FaultRecord). 2 ≤ it.status) is.row (fault-status fault)

pub part-status : (bad : BadPart) → 2 ≤ (record_of_bad_part bad).status
part-status part.PointScale = lit≤ tt
part-status part.TextureScale = lit≤ tt
part-status (part.Point place) = lit≤ tt
part-status (part.TextureValue place) = lit≤ tt
part-status part.FaceCount = lit≤ tt
part-status part.CornerCount = lit≤ tt
part-status part.FaceSizes = lit≤ tt
part-status part.TextureCornerCount = lit≤ tt
part-status (part.Corner place) = lit≤ tt
part-status (part.TextureCorner place) = lit≤ tt
part-status (part.Crease place) = lit≤ tt
part-status (part.CornerTag place) = lit≤ tt
part-status (part.Hole place) = lit≤ tt

pub number-status : (place : ℕ) (fault : FloatFault) → 2 ≤ (record_of_bad_number place fault).status
number-status place NotFinite = lit≤ tt
number-status place TooWide = lit≤ tt
