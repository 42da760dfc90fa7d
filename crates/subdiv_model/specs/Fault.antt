-- The faults of a run: the words of each, its line on standard error, and its exit status.
-- Source: Drillolive.
use Rattle.std.specs.Prelude.{ℕ, List, ◌++◌, codes, Option, Some, None}
use Rattle.subdiv_model.specs.ObjFault.{ObjCause, BadNumeral, NumberRange, UnknownKeyword, Continuation, ShortLine, BadCorner, IndexRange, BadTag, TagIndex, SharpnessRange, MoveIndex, TooFine, LongLine, ObjFault}
use Rattle.subdiv_model.specs.MeshFault.{MeshFault, FaceTooSmall, RepeatedVertex, NonManifoldEdge, WindingClash, SplitVertex}
use Rattle.subdiv_model.specs.TableFault.{TableCause, Form, Range, Sum, Count, TableFault}
use Rattle.subdiv_model.specs.NumberText.{number_text}

-- a count that passes its limit
pub data Counted : Type 0 where
  Points : ℕ → Counted
  Faces : ℕ → Counted
  -- a face and the number of its corners
  FaceSize : ℕ → ℕ → Counted
  -- a vertex and the number of its edges
  Valence : ℕ → ℕ → Counted
  -- a level and the number of its faces
  LevelFaces : ℕ → ℕ → Counted
  -- the number of a level whose table has too many entries
  Entries : ℕ → Counted
  -- the rows of the limit points have too many entries
  LimitEntries : Counted
  -- the rows of the patch have too many entries
  PatchEntries : Counted

-- the values in which an overflow occurs
pub data Track : Type 0 where
  Positions : Track
  Texture : Track
  -- the rows of the limit points
  LimitRows : Track
  -- the rows of the patch
  Patch : Track

-- the fault of a point without limit point, with its number
pub data LimitCause : Type 0 where
  -- exactly one infinitely sharp edge ends at the point
  Dart : ℕ → LimitCause
  -- the point or an edge at it is semi-sharp
  SemiSharp : ℕ → LimitCause

-- the number that passes its bound
pub data OverflowKind : Type 0 where
  -- the denominator of the half of an edge
  ChaikinOverflow : OverflowKind
  -- the denominator of the weight between two rules
  TransitionOverflow : OverflowKind
  -- the common denominator of a point
  DenominatorOverflow : OverflowKind
  -- a numerator over the greatest common denominator
  ValueOverflow : OverflowKind

-- the fault of a place that has no answer
pub data PlaceFault : Type 0 where
  -- the level has this number of faces, and the face does not exist
  NoFace : ℕ → PlaceFault
  -- the face has no patch
  NotRegular : ℕ → PlaceFault
  -- the face has this number of corners, and the corner does not exist
  NoCorner : ℕ → PlaceFault
  -- the face is a hole
  IsHole : ℕ → PlaceFault

-- every fault of a run
pub data Fault : Type 0 where
  -- the words are no command: the place of the first bad word, from 0, or the number of words
  Usage : ℕ → Fault
  Read : Fault
  Long : Fault
  Obj : ObjFault → Fault
  Mesh : MeshFault → Fault
  TooLarge : Counted → Fault
  -- the track, the level and the kind of overflow
  Overflow : Track → ℕ → OverflowKind → Fault
  Limit : LimitCause → Fault
  Place : PlaceFault → Fault
  -- the text of a stored table has a fault
  Table : TableFault → Fault
  -- the number, from 0, of the first row in which a stored table differs from the table of the mesh
  Differs : ℕ → Fault
  -- the number of control points that are given, where a stored table has another number of them
  Controls : ℕ → Fault
  Write : Fault
  Memory : Fault

-- the words of the cause of a bad line
abbrev pub cause_text : ObjCause → List ℕ
cause_text BadNumeral = codes "bad numeral"
cause_text NumberRange = codes "number out of range"
cause_text UnknownKeyword = codes "unknown keyword"
cause_text Continuation = codes "line continuation"
cause_text ShortLine = codes "line too short"
cause_text BadCorner = codes "bad face corner"
cause_text IndexRange = codes "index out of range"
cause_text BadTag = codes "bad tag"
cause_text TagIndex = codes "tag index out of range"
cause_text SharpnessRange = codes "sharpness out of range"
cause_text MoveIndex = codes "move index out of range"
cause_text TooFine = codes "move finer than the scale"
cause_text LongLine = codes "line too long"

-- the words of the fault of an OBJ text: its line and its cause
abbrev pub obj_fault_text : ObjFault → List ℕ
obj_fault_text fault = codes "line " ++ (number_text fault.line ++ (codes ": " ++ cause_text fault.cause))

-- the words of the fault of a mesh
abbrev pub mesh_fault_text : MeshFault → List ℕ
mesh_fault_text (FaceTooSmall face) = codes "face " ++ (number_text face ++ codes " has fewer than three corners")
mesh_fault_text (RepeatedVertex face) = codes "face " ++ (number_text face ++ codes " repeats a vertex")
mesh_fault_text (NonManifoldEdge a b) = codes "edge " ++ (number_text a ++ (codes " " ++ (number_text b ++ codes " has more than two faces")))
mesh_fault_text (WindingClash a b) = codes "edge " ++ (number_text a ++ (codes " " ++ (number_text b ++ codes " is used twice in one direction")))
mesh_fault_text (SplitVertex v) = codes "vertex " ++ (number_text v ++ codes " joins more than one fan")

-- the words of a count that passes its limit
abbrev pub counted_text : Counted → List ℕ
counted_text (Points count) = codes "too many points: " ++ number_text count
counted_text (Faces count) = codes "too many faces: " ++ number_text count
counted_text (FaceSize face size) = codes "face " ++ (number_text face ++ (codes " has " ++ (number_text size ++ codes " corners")))
counted_text (Valence v count) = codes "vertex " ++ (number_text v ++ (codes " has " ++ (number_text count ++ codes " edges")))
counted_text (LevelFaces level count) = codes "level " ++ (number_text level ++ (codes " has " ++ (number_text count ++ codes " faces")))
counted_text (Entries level) = codes "level " ++ (number_text level ++ codes " has too many entries")
counted_text LimitEntries = codes "the limit rows have too many entries"
counted_text PatchEntries = codes "the patch rows have too many entries"

-- the words of a track
abbrev pub track_text : Track → List ℕ
track_text Positions = codes "positions"
track_text Texture = codes "texture"
track_text LimitRows = codes "limit"
track_text Patch = codes "patch"

-- the words of the fault of a place
abbrev pub place_fault_text : PlaceFault → List ℕ
place_fault_text (NoFace count) = codes "there are " ++ (number_text count ++ codes " faces")
place_fault_text (NotRegular face) = codes "face " ++ (number_text face ++ codes " is not a regular inner face")
place_fault_text (NoCorner size) = codes "the face has " ++ (number_text size ++ codes " corners")
place_fault_text (IsHole face) = codes "face " ++ (number_text face ++ codes " is a hole")

-- the words of the cause of a bad line of a table
abbrev pub table_cause_text : TableCause → List ℕ
table_cause_text Form = codes "table form"
table_cause_text Range = codes "table number out of range"
table_cause_text Sum = codes "table row does not sum"
table_cause_text Count = codes "table entry count"

-- the words of the fault of a table: its line and its cause
abbrev pub table_fault_text : TableFault → List ℕ
table_fault_text fault = codes "line " ++ (number_text fault.line ++ (codes ": " ++ table_cause_text fault.cause))

-- the words of the fault of a point without limit point
abbrev pub limit_cause_text : LimitCause → List ℕ
limit_cause_text (Dart v) = codes "vertex " ++ (number_text v ++ codes " is a dart")
limit_cause_text (SemiSharp v) = codes "vertex " ++ (number_text v ++ codes " is semi-sharp")

-- the words of a kind of overflow
abbrev pub kind_text : OverflowKind → List ℕ
kind_text ChaikinOverflow = codes "chaikin"
kind_text TransitionOverflow = codes "transition"
kind_text DenominatorOverflow = codes "denominator"
kind_text ValueOverflow = codes "value"

-- the words of a fault
abbrev pub fault_text : Fault → List ℕ
fault_text (Usage word) = codes "word " ++ (number_text word ++ codes " is not understood")
fault_text Read = codes "reading failed"
fault_text Long = codes "input is longer than 268435456 bytes"
fault_text (Obj fault) = obj_fault_text fault
fault_text (Mesh fault) = mesh_fault_text fault
fault_text (TooLarge counted) = counted_text counted
fault_text (Overflow track level kind) =
    track_text track ++ (codes " level " ++ (number_text level ++ (codes ": " ++ (kind_text kind ++ codes " overflow"))))
fault_text (Limit cause) = limit_cause_text cause
fault_text (Place fault) = place_fault_text fault
fault_text (Table fault) = table_fault_text fault
fault_text (Differs row) = codes "row " ++ (number_text row ++ codes " differs")
fault_text (Controls count) = number_text count ++ codes " control points given"
fault_text Write = codes "writing failed"
fault_text Memory = codes "out of memory"

-- the line of a fault on standard error
abbrev pub fault_line : Fault → List ℕ
fault_line fault = codes "far: " ++ (fault_text fault ++ codes "\n")

-- the exit status of a fault
abbrev pub fault_status : Fault → ℕ
fault_status (Usage word) = 2
fault_status Read = 3
fault_status Long = 4
fault_status (Obj fault) = 5
fault_status (Mesh fault) = 6
fault_status (TooLarge counted) = 7
fault_status (Overflow track level kind) = 8
fault_status (Limit cause) = 9
fault_status (Place fault) = 13
fault_status (Table fault) = 14
fault_status (Differs row) = 15
fault_status (Controls count) = 16
fault_status Write = 10
fault_status Memory = 11

-- the exit status of a run
abbrev pub outcome_status : Option Fault → ℕ
outcome_status None = 0
outcome_status (Some fault) = fault_status fault
