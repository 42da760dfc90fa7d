-- The fault that a record describes. For a record of no fault it is a fault with another record.
use Rattle.std.specs.Prelude.{ℕ, ◌/◌, ◌%◌, ◌^◌, nat_eq, if◌then◌else◌}
use Rattle.subdiv_model.specs.ObjFault.{ObjCause, BadNumeral, NumberRange, UnknownKeyword, Continuation, ShortLine, BadCorner, IndexRange, BadTag, TagIndex, SharpnessRange, MoveIndex, TooFine, LongLine}
use Rattle.subdiv_model.specs.MeshFault.{MeshFault, FaceTooSmall, RepeatedVertex, NonManifoldEdge, WindingClash, SplitVertex}
use Rattle.subdiv_model.specs.TableFault.{TableCause, Form, Range, Sum, Count}
use Rattle.subdiv_model.specs.Fault.{Counted, Points, Faces, FaceSize, Valence, LevelFaces, Entries, LimitEntries, PatchEntries, Track, Positions, Texture, LimitRows, Patch, LimitCause, Dart, SemiSharp, OverflowKind, ChaikinOverflow, TransitionOverflow, DenominatorOverflow, ValueOverflow, PlaceFault, NoFace, NotRegular, NoCorner, IsHole, Fault, Usage, Read, Long, Obj, Mesh, TooLarge, Overflow, Limit, Place, Table, Differs, Controls, Write, Memory}
use Rattle.array_answers.specs.declared.record.FaultRecord.{FaultRecord}

-- the lower 32 bits
abbrev pub low : ℕ → ℕ
low n = n % 2 ^ 32

-- the cause with this number, for a line of a mesh text
abbrev pub cause_named : ℕ → ObjCause
cause_named kind =
    if nat_eq kind 0 then BadNumeral else (if nat_eq kind 1 then NumberRange else (if nat_eq kind 2 then UnknownKeyword
    else (if nat_eq kind 3 then Continuation else (if nat_eq kind 4 then ShortLine else (if nat_eq kind 5 then BadCorner
    else (if nat_eq kind 6 then IndexRange else (if nat_eq kind 7 then BadTag else (if nat_eq kind 8 then TagIndex
    else (if nat_eq kind 9 then SharpnessRange else (if nat_eq kind 10 then MoveIndex else (if nat_eq kind 11 then TooFine
    else LongLine)))))))))))

-- the cause with this number, for a line of a stored table
abbrev pub table_cause_named : ℕ → TableCause
table_cause_named kind = if nat_eq kind 0 then Form else (if nat_eq kind 1 then Range else (if nat_eq kind 2 then Sum else Count))

-- the track with this number
abbrev pub track_named : ℕ → Track
track_named n = if nat_eq n 0 then Positions else (if nat_eq n 1 then Texture else (if nat_eq n 2 then LimitRows else Patch))

-- the kind of overflow with this number
abbrev pub overflow_named : ℕ → OverflowKind
overflow_named n =
    if nat_eq n 0 then ChaikinOverflow else (if nat_eq n 1 then TransitionOverflow else (if nat_eq n 2 then DenominatorOverflow else ValueOverflow))

-- the fault of a mesh with this kind and these numbers
abbrev pub mesh_fault_named : ℕ → ℕ → ℕ → MeshFault
mesh_fault_named kind a b =
    if nat_eq kind 0 then FaceTooSmall a else (if nat_eq kind 1 then RepeatedVertex a else (if nat_eq kind 2 then NonManifoldEdge a b
    else (if nat_eq kind 3 then WindingClash a b else SplitVertex a)))

-- the count with this kind and these numbers
abbrev pub counted_named : ℕ → ℕ → ℕ → Counted
counted_named kind number count =
    if nat_eq kind 0 then Points number else (if nat_eq kind 1 then Faces number else (if nat_eq kind 2 then FaceSize (low number) count
    else (if nat_eq kind 3 then Valence (low number) count else (if nat_eq kind 4 then LevelFaces (low number) count
    else (if nat_eq kind 5 then Entries (low number) else (if nat_eq kind 6 then LimitEntries else PatchEntries))))))

-- the cause with this kind that leaves a point without a limit point
abbrev pub limit_cause_named : ℕ → ℕ → LimitCause
limit_cause_named kind vertex = if nat_eq kind 0 then Dart vertex else SemiSharp vertex

-- the fault of a place with this kind and this number
abbrev pub place_fault_named : ℕ → ℕ → PlaceFault
place_fault_named kind number =
    if nat_eq kind 0 then NoFace number else (if nat_eq kind 1 then NotRegular number
    else (if nat_eq kind 2 then NoCorner number else IsHole number))

-- the fault that a record describes
abbrev pub fault_named : FaultRecord → Fault
fault_named r =
    if nat_eq r.status 2 then Usage (low r.first) else (if nat_eq r.status 3 then Read else (if nat_eq r.status 4 then Long
    else (if nat_eq r.status 5 then Obj (record { line = low r.first; cause = cause_named r.kind })
    else (if nat_eq r.status 6 then Mesh (mesh_fault_named r.kind (low r.first) (low r.second)) else (if nat_eq r.status 7 then TooLarge (counted_named r.kind r.first r.second)
    else (if nat_eq r.status 8 then Overflow (track_named (r.kind / 4)) (low r.first) (overflow_named (r.kind % 4))
    else (if nat_eq r.status 9 then Limit (limit_cause_named r.kind (low r.first)) else (if nat_eq r.status 10 then Write
    else (if nat_eq r.status 13 then Place (place_fault_named r.kind (low r.first))
    else (if nat_eq r.status 14 then Table (record { line = low r.first; cause = table_cause_named r.kind })
    else (if nat_eq r.status 15 then Differs (low r.first) else (if nat_eq r.status 16 then Controls (low r.first)
    else Memory))))))))))))
