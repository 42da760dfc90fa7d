-- A fault comes back from its record.
use Rattle.std.proofs.Common.{◌≡◌, ℕ, ◌+◌, ◌*◌, ◌/◌, ◌%◌, ◌^◌, ◌<◌, ap, sym, ◌∙◌, refl, arith, lit≤, Option, Some, None}
use Rattle.subdiv_model.specs.ObjFault.{ObjCause, BadNumeral, NumberRange, UnknownKeyword, Continuation, ShortLine, BadCorner, IndexRange, BadTag, TagIndex, SharpnessRange, MoveIndex, TooFine, LongLine}
use Rattle.subdiv_model.specs.MeshFault.{FaceTooSmall, RepeatedVertex, NonManifoldEdge, WindingClash, SplitVertex}
use Rattle.subdiv_model.specs.TableFault.{TableCause, Form, Range, Sum, Count}
use Rattle.subdiv_model.specs.Fault.{Points, Faces, FaceSize, Valence, LevelFaces, Entries, LimitEntries, PatchEntries, Track, Positions, Texture, LimitRows, Patch, Dart, SemiSharp, OverflowKind, ChaikinOverflow, TransitionOverflow, DenominatorOverflow, ValueOverflow, NoFace, NotRegular, NoCorner, IsHole, Fault, Usage, Read, Long, Obj, Mesh, TooLarge, Overflow, Limit, Place, Table, Differs, Controls, Write, Memory}
use Rattle.array_answers.specs.RecordTable.{record_of, cause_kind, table_cause_kind, track_number, overflow_number}
use Rattle.array_answers.specs.RecordRange.{IsInRange}
use Rattle.std.specs.Prelude.{option_map}
use Rattle.far_fault.specs.declared.fault.FarFault.{FarFault}
use Rattle.far_fault.specs.View.{fault_of}
use Rattle.array_answers.specs.RecordBack.{IsRecordOf, IsFaultOf}
use Rattle.array_answers.specs.RecordNamed.{low, cause_named, table_cause_named, track_named, overflow_named, fault_named}
use Rattle.array_answers.specs.declared.record.FaultRecord.{FaultRecord}

low-small : (n : ℕ) → n < 2 ^ 32 → low n ≡ n
low-small n small = omega arith

cause-back : (cause : ObjCause) → cause_named (cause_kind cause) ≡ cause
cause-back BadNumeral = refl
cause-back NumberRange = refl
cause-back UnknownKeyword = refl
cause-back Continuation = refl
cause-back ShortLine = refl
cause-back BadCorner = refl
cause-back IndexRange = refl
cause-back BadTag = refl
cause-back TagIndex = refl
cause-back SharpnessRange = refl
cause-back MoveIndex = refl
cause-back TooFine = refl
cause-back LongLine = refl

table-cause-back : (cause : TableCause) → table_cause_named (table_cause_kind cause) ≡ cause
table-cause-back Form = refl
table-cause-back Range = refl
table-cause-back Sum = refl
table-cause-back Count = refl

track-back : (track : Track) → track_named (track_number track) ≡ track
track-back Positions = refl
track-back Texture = refl
track-back LimitRows = refl
track-back Patch = refl

overflow-back : (kind : OverflowKind) → overflow_named (overflow_number kind) ≡ kind
overflow-back ChaikinOverflow = refl
overflow-back TransitionOverflow = refl
overflow-back DenominatorOverflow = refl
overflow-back ValueOverflow = refl

overflow-few : (kind : OverflowKind) → overflow_number kind < 4
overflow-few ChaikinOverflow = lit≤ tt
overflow-few TransitionOverflow = lit≤ tt
overflow-few DenominatorOverflow = lit≤ tt
overflow-few ValueOverflow = lit≤ tt

quarter : (n m : ℕ) → m < 4 → (4 * n + m) / 4 ≡ n
quarter n m few = omega arith

rest-of-quarter : (n m : ℕ) → m < 4 → (4 * n + m) % 4 ≡ m
rest-of-quarter n m few = omega arith

both : {A B C : Type 0} (f : A → B → C) {a c : A} {b d : B} → a ≡ c → b ≡ d → f a b ≡ f c d
both f {a} {c} {b} {d} first second = ap (λ x. f x b) first ∙ ap (f c) second

pub fault-back : (fault : Fault) → IsInRange fault → fault_named (record_of fault) ≡ fault
fault-back (Usage word) fits = ap Usage (low-small word fits)
fault-back Read fits = refl
fault-back Long fits = refl
fault-back (Obj fault) fits = both (λ line cause. Obj (record { line = line; cause = cause })) (low-small fault.line fits) (cause-back fault.cause)
fault-back (Mesh (FaceTooSmall face)) fits = ap (λ n. Mesh (FaceTooSmall n)) (low-small face fits)
fault-back (Mesh (RepeatedVertex face)) fits = ap (λ n. Mesh (RepeatedVertex n)) (low-small face fits)
fault-back (Mesh (NonManifoldEdge a b)) fits = both (λ m n. Mesh (NonManifoldEdge m n)) (low-small a fits.0) (low-small b fits.1)
fault-back (Mesh (WindingClash a b)) fits = both (λ m n. Mesh (WindingClash m n)) (low-small a fits.0) (low-small b fits.1)
fault-back (Mesh (SplitVertex vertex)) fits = ap (λ n. Mesh (SplitVertex n)) (low-small vertex fits)
fault-back (TooLarge (Points count)) fits = refl
fault-back (TooLarge (Faces count)) fits = refl
fault-back (TooLarge (FaceSize face size)) fits = ap (λ n. TooLarge (FaceSize n size)) (low-small face fits.0)
fault-back (TooLarge (Valence vertex count)) fits = ap (λ n. TooLarge (Valence n count)) (low-small vertex fits.0)
fault-back (TooLarge (LevelFaces level count)) fits = ap (λ n. TooLarge (LevelFaces n count)) (low-small level fits.0)
fault-back (TooLarge (Entries level)) fits = ap (λ n. TooLarge (Entries n)) (low-small level fits)
fault-back (TooLarge LimitEntries) fits = refl
fault-back (TooLarge PatchEntries) fits = refl
fault-back (Overflow track level kind) fits =
    ap (λ t. Overflow t (low level) (overflow_named ((4 * track_number track + overflow_number kind) % 4)))
    (ap track_named (quarter (track_number track) (overflow_number kind) (overflow-few kind)) ∙ track-back track)
    ∙ both (λ n k. Overflow track n k) (low-small level fits)
    (ap overflow_named (rest-of-quarter (track_number track) (overflow_number kind) (overflow-few kind)) ∙ overflow-back kind)
fault-back (Limit (Dart vertex)) fits = ap (λ n. Limit (Dart n)) (low-small vertex fits)
fault-back (Limit (SemiSharp vertex)) fits = ap (λ n. Limit (SemiSharp n)) (low-small vertex fits)
fault-back (Place (NoFace count)) fits = ap (λ n. Place (NoFace n)) (low-small count fits)
fault-back (Place (NotRegular face)) fits = ap (λ n. Place (NotRegular n)) (low-small face fits)
fault-back (Place (NoCorner count)) fits = ap (λ n. Place (NoCorner n)) (low-small count fits)
fault-back (Place (IsHole face)) fits = ap (λ n. Place (IsHole n)) (low-small face fits)
fault-back (Table fault) fits = both (λ line cause. Table (record { line = line; cause = cause })) (low-small fault.line fits) (table-cause-back fault.cause)
fault-back (Differs place) fits = ap Differs (low-small place fits)
fault-back (Controls count) fits = ap Controls (low-small count fits)
fault-back Write fits = refl
fault-back Memory fits = refl

-- a record describes at most one fault
pub one-fault : (held : FaultRecord) (a b : Fault) → IsRecordOf held a → IsRecordOf held b → a ≡ b
one-fault held a b first second =
    sym (fault-back a first.range) ∙ ap fault_named (first.row ∙ sym second.row) ∙ fault-back b second.range

-- the fault that a record names has this record, if any fault has it
pub named-again : (held r : FaultRecord) (made : Fault) → made ≡ fault_named held → r ≡ record_of made → (fault : Fault) → IsRecordOf held fault → r ≡ held
named-again held r made named row fault is =
    row ∙ ap record_of (named ∙ ap fault_named (sym is.row) ∙ fault-back fault is.range) ∙ is.row

-- the fault of the record of a fault is that fault
pub comes-back : (fault : Fault) (back : Option FarFault) → IsInRange fault → IsFaultOf (record_of fault) back → option_map fault_of back ≡ Some fault
comes-back fault None fits is = absurd (is fault (record { row = refl; range = fits }))
comes-back fault (Some found) fits is = ap Some (one-fault (record_of fault) (fault_of found) fault is (record { row = refl; range = fits }))
