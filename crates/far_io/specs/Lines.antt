-- The bytes that a reader of lines takes from a source, and the line that it finds.
use Rattle.std.specs.Prelude.{ℕ, ◌≡◌, ◌+◌, ◌<◌, ◌≤◌, Bool, false, nat_eq, List, [], ◌∷◌, ◌++◌, length, Option, Some, None, Result, Ok, Err, OnErr}
use Rattle.std.specs.List.{list_any}
use Rattle.far_io.specs.Bytes.{Rose, Took, IsDry}
use Rattle.far_io.specs.declared.source.ReadFailed.{ReadFailed}
use Rattle.far_io.specs.declared.source.Source.{Ghosts}
use Rattle.far_io.specs.declared.lines.NextLine.{NextLine}
use Rattle.far_io.specs.declared.lines.NextLine.TheVariants.{Closed, Last, End, Full, Long}

-- The bytes that a reader of lines has taken and not yet passed.
pub record LineInput : Type 0 where
  -- the current line, without its LF
  pub line : List ℕ
  -- the bytes after the line and its LF
  pub pending : List ℕ
  -- how many bytes of one line fit, LF included
  pub room : ℕ
  -- how many bytes may still come
  pub allowed : ℕ

-- Whether a byte is LF.
abbrev pub is_lf : ℕ → Bool
is_lf byte = nat_eq byte 10

-- No byte is LF.
abbrev pub HasNoLf : List ℕ → Type 0
HasNoLf bytes = list_any is_lf bytes ≡ false

-- The bytes are a line without LF, then LF, then the pending bytes.
abbrev pub IsClosed : List ℕ → List ℕ → List ℕ → Type 0
IsClosed bytes line pending = (bytes ≡ line ++ (10 ∷ pending)) × HasNoLf line

-- The result of `next`, by the bytes pending before, the bytes that came, and the bytes the source has left.
abbrev pub IsNext : LineInput → LineInput → List ℕ → Option (List ℕ) → Result NextLine ReadFailed → Type 0
IsNext old new bytes left (Ok Closed) = IsClosed (old.pending ++ bytes) new.line new.pending
IsNext old new bytes left (Ok Last) =
    (old.pending ++ bytes ≡ new.line) × HasNoLf new.line × (0 < length new.line) × (new.pending ≡ []) × IsDry left
IsNext old new bytes left (Ok End) = (old.pending ++ bytes ≡ []) × (new.line ≡ []) × (new.pending ≡ []) × IsDry left
IsNext old new bytes left (Ok Full) =
    (old.pending ++ bytes ≡ new.pending) × HasNoLf new.pending × (new.room ≤ length new.pending) × (new.line ≡ [])
IsNext old new bytes left (Ok Long) =
    ((byte : ℕ) × (old.pending ++ bytes ≡ new.pending ++ (byte ∷ []))) × HasNoLf new.pending × (length new.pending < new.room) × (new.line ≡ [])
IsNext old new bytes left (Err _) =
    (old.pending ++ bytes ≡ new.pending) × HasNoLf new.pending × (length new.pending < new.room) × (new.line ≡ [])

-- How many bytes came: never more than allowed, and one more only for `Long`.
abbrev pub IsCounted : ℕ → ℕ → List ℕ → Result NextLine ReadFailed → Type 0
IsCounted old new bytes (Ok Closed) = new + length bytes ≡ old
IsCounted old new bytes (Ok Last) = new + length bytes ≡ old
IsCounted old new bytes (Ok End) = new + length bytes ≡ old
IsCounted old new bytes (Ok Full) = new + length bytes ≡ old
IsCounted old new bytes (Ok Long) = (length bytes ≡ old + 1) × (new ≡ 0)
IsCounted old new bytes (Err _) = new + length bytes ≡ old

-- The effect of one call of `next` on the reader and its source.
pub record ReadsLine {S : Type 0} (source : Ghosts S) (old new : LineInput) (s s' : S) (result : Result NextLine ReadFailed) : Type 0 where
  -- the bytes that came
  pub bytes : List ℕ
  pub took : Took (source.left s) (source.left s') bytes
  pub next : IsNext old new bytes (source.left s') result
  pub counted : IsCounted old.allowed new.allowed bytes result
  pub cause : OnErr result (Rose (source.faults s) (source.faults s'))
  pub later : source.faults s ≤ source.faults s'
  pub room : new.room ≡ old.room

-- Bytes came, and the pending bytes contain no LF yet.
pub record ReadsOn {S : Type 0} (source : Ghosts S) (old new : LineInput) (s s' : S) : Type 0 where
  pub bytes : List ℕ
  pub took : Took (source.left s) (source.left s') bytes
  pub kept : new.pending ≡ old.pending ++ bytes
  pub plain : HasNoLf new.pending
  pub line : new.line ≡ []
  pub counted : new.allowed + length bytes ≡ old.allowed
  pub later : source.faults s ≤ source.faults s'
  pub room : new.room ≡ old.room

-- One more read: it finds a line, fails, or adds bytes without LF.
abbrev pub ReadsMore : {S : Type 0} → Ghosts S → LineInput → LineInput → S → S → Result (Option NextLine) ReadFailed → Type 0
ReadsMore source old new s s' (Ok (Some found)) = ReadsLine source old new s s' (Ok found)
ReadsMore source old new s s' (Ok None) = ReadsOn source old new s s' × (new.allowed < old.allowed)
ReadsMore source old new s s' (Err e) = ReadsLine source old new s s' (Err e)
