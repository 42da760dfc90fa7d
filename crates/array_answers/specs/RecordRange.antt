-- The ranges of the numbers of a fault: places, lines and levels have 32 bits, counts have 64.
use Rattle.std.specs.Prelude.{◌<◌, ◌^◌}
use Rattle.subdiv_model.specs.MeshFault.{MeshFault, FaceTooSmall, RepeatedVertex, NonManifoldEdge, WindingClash, SplitVertex}
use Rattle.subdiv_model.specs.Fault.{Counted, Points, Faces, FaceSize, Valence, LevelFaces, Entries, LimitEntries, PatchEntries, LimitCause, Dart, SemiSharp, PlaceFault, NoFace, NotRegular, NoCorner, IsHole, Fault, Usage, Read, Long, Obj, Mesh, TooLarge, Overflow, Limit, Place, Table, Differs, Controls, Write, Memory}

-- the faces and vertices of a mesh fault have 32 bits
abbrev pub IsMeshInRange : MeshFault → Type 0
IsMeshInRange (FaceTooSmall face) = face < 2 ^ 32
IsMeshInRange (RepeatedVertex face) = face < 2 ^ 32
IsMeshInRange (NonManifoldEdge a b) = (a < 2 ^ 32) × (b < 2 ^ 32)
IsMeshInRange (WindingClash a b) = (a < 2 ^ 32) × (b < 2 ^ 32)
IsMeshInRange (SplitVertex vertex) = vertex < 2 ^ 32

-- the places of a count have 32 bits, and the count has 64
abbrev pub IsCountInRange : Counted → Type 0
IsCountInRange (Points count) = count < 2 ^ 64
IsCountInRange (Faces count) = count < 2 ^ 64
IsCountInRange (FaceSize face size) = (face < 2 ^ 32) × (size < 2 ^ 64)
IsCountInRange (Valence vertex count) = (vertex < 2 ^ 32) × (count < 2 ^ 64)
IsCountInRange (LevelFaces level count) = (level < 2 ^ 32) × (count < 2 ^ 64)
IsCountInRange (Entries level) = level < 2 ^ 32
IsCountInRange LimitEntries = Unit {0}
IsCountInRange PatchEntries = Unit {0}

-- the vertex has 32 bits
abbrev pub IsLimitInRange : LimitCause → Type 0
IsLimitInRange (Dart vertex) = vertex < 2 ^ 32
IsLimitInRange (SemiSharp vertex) = vertex < 2 ^ 32

-- the face or the count has 32 bits
abbrev pub IsPlaceInRange : PlaceFault → Type 0
IsPlaceInRange (NoFace count) = count < 2 ^ 32
IsPlaceInRange (NotRegular face) = face < 2 ^ 32
IsPlaceInRange (NoCorner count) = count < 2 ^ 32
IsPlaceInRange (IsHole face) = face < 2 ^ 32

-- the numbers of a fault are in their ranges
abbrev pub IsInRange : Fault → Type 0
IsInRange (Usage word) = word < 2 ^ 32
IsInRange Read = Unit {0}
IsInRange Long = Unit {0}
IsInRange (Obj fault) = fault.line < 2 ^ 32
IsInRange (Mesh fault) = IsMeshInRange fault
IsInRange (TooLarge counted) = IsCountInRange counted
IsInRange (Overflow track level kind) = level < 2 ^ 32
IsInRange (Limit cause) = IsLimitInRange cause
IsInRange (Place fault) = IsPlaceInRange fault
IsInRange (Table fault) = fault.line < 2 ^ 32
IsInRange (Differs place) = place < 2 ^ 32
IsInRange (Controls count) = count < 2 ^ 32
IsInRange Write = Unit {0}
IsInRange Memory = Unit {0}
