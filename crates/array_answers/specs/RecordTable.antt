-- The record of each fault: its status, its kind among the faults with that status, and the two numbers that it names. A kind or number
-- that the fault does not have is 0.
use Rattle.std.specs.Prelude.{ℕ, ◌+◌, ◌*◌}
use Rattle.subdiv_model.specs.ObjFault.{ObjCause, BadNumeral, NumberRange, UnknownKeyword, Continuation, ShortLine, BadCorner, IndexRange, BadTag, TagIndex, SharpnessRange, MoveIndex, TooFine, LongLine}
use Rattle.subdiv_model.specs.MeshFault.{MeshFault, FaceTooSmall, RepeatedVertex, NonManifoldEdge, WindingClash, SplitVertex}
use Rattle.subdiv_model.specs.TableFault.{TableCause, Form, Range, Sum, Count}
use Rattle.subdiv_model.specs.Fault.{Counted, Points, Faces, FaceSize, Valence, LevelFaces, Entries, LimitEntries, PatchEntries, Track, Positions, Texture, LimitRows, Patch, LimitCause, Dart, SemiSharp, OverflowKind, ChaikinOverflow, TransitionOverflow, DenominatorOverflow, ValueOverflow, PlaceFault, NoFace, NotRegular, NoCorner, IsHole, Fault, Usage, Read, Long, Obj, Mesh, TooLarge, Overflow, Limit, Place, Table, Differs, Controls, Write, Memory}
use Rattle.array_answers.specs.ArrayRecords.{row}
use Rattle.array_answers.specs.declared.record.FaultRecord.{FaultRecord}

-- the kind of a refused line of a mesh text
abbrev pub cause_kind : ObjCause → ℕ
cause_kind BadNumeral = 0
cause_kind NumberRange = 1
cause_kind UnknownKeyword = 2
cause_kind Continuation = 3
cause_kind ShortLine = 4
cause_kind BadCorner = 5
cause_kind IndexRange = 6
cause_kind BadTag = 7
cause_kind TagIndex = 8
cause_kind SharpnessRange = 9
cause_kind MoveIndex = 10
cause_kind TooFine = 11
cause_kind LongLine = 12

-- the kind of a refused line of a stored table
abbrev pub table_cause_kind : TableCause → ℕ
table_cause_kind Form = 0
table_cause_kind Range = 1
table_cause_kind Sum = 2
table_cause_kind Count = 3

-- the number of a track; the kind of an overflow comes from its track and its own kind
abbrev pub track_number : Track → ℕ
track_number Positions = 0
track_number Texture = 1
track_number LimitRows = 2
track_number Patch = 3

-- the number of a kind of overflow
abbrev pub overflow_number : OverflowKind → ℕ
overflow_number ChaikinOverflow = 0
overflow_number TransitionOverflow = 1
overflow_number DenominatorOverflow = 2
overflow_number ValueOverflow = 3

-- the record of a fault of a mesh
abbrev pub mesh_record : MeshFault → FaultRecord
mesh_record (FaceTooSmall face) = row 6 0 face 0
mesh_record (RepeatedVertex face) = row 6 1 face 0
mesh_record (NonManifoldEdge a b) = row 6 2 a b
mesh_record (WindingClash a b) = row 6 3 a b
mesh_record (SplitVertex vertex) = row 6 4 vertex 0

-- the record of a count that passes its limit
abbrev pub counted_record : Counted → FaultRecord
counted_record (Points count) = row 7 0 count 0
counted_record (Faces count) = row 7 1 count 0
counted_record (FaceSize face size) = row 7 2 face size
counted_record (Valence vertex count) = row 7 3 vertex count
counted_record (LevelFaces level count) = row 7 4 level count
counted_record (Entries level) = row 7 5 level 0
counted_record LimitEntries = row 7 6 0 0
counted_record PatchEntries = row 7 7 0 0

-- the record of a point without a limit point
abbrev pub limit_record : LimitCause → FaultRecord
limit_record (Dart vertex) = row 9 0 vertex 0
limit_record (SemiSharp vertex) = row 9 1 vertex 0

-- the record of a place without a patch or leaf
abbrev pub place_record : PlaceFault → FaultRecord
place_record (NoFace count) = row 13 0 count 0
place_record (NotRegular face) = row 13 1 face 0
place_record (NoCorner count) = row 13 2 count 0
place_record (IsHole face) = row 13 3 face 0

-- status, kind, first and second number of each fault
abbrev pub record_of : Fault → FaultRecord
record_of (Usage word) = row 2 0 word 0
record_of Read = row 3 0 0 0
record_of Long = row 4 0 0 0
record_of (Obj fault) = row 5 (cause_kind fault.cause) fault.line 0
record_of (Mesh fault) = mesh_record fault
record_of (TooLarge counted) = counted_record counted
record_of (Overflow track level kind) = row 8 (4 * track_number track + overflow_number kind) level 0
record_of (Limit cause) = limit_record cause
record_of Write = row 10 0 0 0
record_of Memory = row 11 0 0 0
record_of (Place fault) = place_record fault
record_of (Table fault) = row 14 (table_cause_kind fault.cause) fault.line 0
record_of (Differs place) = row 15 0 place 0
record_of (Controls count) = row 16 0 count 0
