-- The bytes that a reader of a text takes from a source, and the line that it finds.
use Rattle.std.specs.Prelude.{ℕ, ◌≡◌, ◌+◌, ◌-◌, ◌<◌, ◌≤◌, List, [], ◌∷◌, ◌++◌, length, take, drop, Option, Some, None, Result, Ok, Err}
use Rattle.far_io.specs.Buffer.{part}
use Rattle.far_io.specs.Bytes.{Rose, Took, IsDry}
use Rattle.far_io.specs.Lines.{HasNoLf, IsClosed}
use Rattle.far_io.specs.declared.source.InputFault.{InputFault}
use Rattle.far_io.specs.declared.source.InputFault.TheVariants.{Read, Long, Memory}
use Rattle.far_io.specs.declared.source.Source.{Ghosts}
use Rattle.far_io.specs.declared.text.NextText.{NextText}
use Rattle.far_io.specs.declared.text.NextText.TheVariants.{Closed, Last, End}

-- All bytes that a reader of a text has taken.
pub record TextInput : Type 0 where
  -- all bytes before the current line
  pub before : List ℕ
  -- the current line, and its end: LF or nothing
  pub line : List ℕ
  pub end : List ℕ
  -- the bytes after the line and its end
  pub pending : List ℕ
  -- how many bytes may still come
  pub allowed : ℕ

-- All bytes up to the end of the current line.
abbrev pub passed : TextInput → List ℕ
passed text = text.before ++ (text.line ++ text.end)

-- The reader is between lines: its line and end are empty.
pub record IsBetweenLines (text : TextInput) : Type 0 where
  pub line : text.line ≡ []
  pub end : text.end ≡ []

-- The bytes that came were added behind the pending ones, and all of them contain no LF.
abbrev pub IsPending : List ℕ → TextInput → List ℕ → Type 0
IsPending pending new bytes = (pending ++ bytes ≡ new.pending) × HasNoLf new.pending × IsBetweenLines new

-- The result of `next`, by the bytes pending before, the bytes that came, and the bytes the source has left.
abbrev pub IsNextText : List ℕ → TextInput → List ℕ → Option (List ℕ) → Result NextText InputFault → Type 0
IsNextText pending new bytes left (Ok Closed) = IsClosed (pending ++ bytes) new.line new.pending × (new.end ≡ 10 ∷ [])
IsNextText pending new bytes left (Ok Last) =
    (pending ++ bytes ≡ new.line) × HasNoLf new.line × (0 < length new.line) × (new.end ≡ []) × (new.pending ≡ []) × IsDry left
IsNextText pending new bytes left (Ok End) = (pending ++ bytes ≡ []) × IsBetweenLines new × (new.pending ≡ []) × IsDry left
IsNextText pending new bytes left (Err Read) = IsPending pending new bytes
IsNextText pending new bytes left (Err Long) = (kept : List ℕ) × (byte : ℕ) × (bytes ≡ kept ++ (byte ∷ [])) × IsPending pending new kept
IsNextText pending new bytes left (Err Memory) = (kept last : List ℕ) × (bytes ≡ kept ++ last) × (length last ≤ 4096) × IsPending pending new kept

-- How many bytes came: never more than allowed, and one more only for `Long`.
abbrev pub IsCountedText : ℕ → ℕ → List ℕ → Result NextText InputFault → Type 0
IsCountedText old new bytes (Ok _) = new + length bytes ≡ old
IsCountedText old new bytes (Err Read) = new + length bytes ≡ old
IsCountedText old new bytes (Err Long) = (length bytes ≡ old + 1) × (new ≡ 0)
IsCountedText old new bytes (Err Memory) = new + length bytes ≡ old

-- The effect of one call of `next` on the reader and its source.
pub record ReadsText {S : Type 0} (source : Ghosts S) (old new : TextInput) (s s' : S) (result : Result NextText InputFault) : Type 0 where
  -- the bytes that came
  pub bytes : List ℕ
  pub took : Took (source.left s) (source.left s') bytes
  pub next : IsNextText old.pending new bytes (source.left s') result
  pub counted : IsCountedText old.allowed new.allowed bytes result
  pub before : new.before ≡ passed old
  pub cause : result ≡ Err Read → Rose (source.faults s) (source.faults s')
  pub later : source.faults s ≤ source.faults s'

-- Bytes came, and the pending bytes contain no LF yet.
pub record ReadsOnText {S : Type 0} (source : Ghosts S) (old new : TextInput) (s s' : S) : Type 0 where
  pub bytes : List ℕ
  pub took : Took (source.left s) (source.left s') bytes
  pub kept : IsPending old.pending new bytes
  pub counted : new.allowed + length bytes ≡ old.allowed
  pub before : new.before ≡ passed old
  pub later : source.faults s ≤ source.faults s'

-- One more read: it finds a line, fails, or adds bytes without LF.
abbrev pub ReadsMoreText : {S : Type 0} → Ghosts S → TextInput → TextInput → S → S → Result (Option NextText) InputFault → Type 0
ReadsMoreText source old new s s' (Ok (Some found)) = ReadsText source old new s s' (Ok found)
ReadsMoreText source old new s s' (Ok None) = ReadsOnText source old new s s' × (new.allowed < old.allowed)
ReadsMoreText source old new s s' (Err fault) = ReadsText source old new s s' (Err fault)

-- The result of keeping a piece: a found line, pending bytes without LF, or `Memory`.
abbrev pub IsKept : List ℕ → TextInput → List ℕ → Result (Option NextText) InputFault → Type 0
IsKept pending new piece (Ok (Some found)) = (left : Option (List ℕ)) → IsNextText pending new piece left (Ok found)
IsKept pending new piece (Ok None) = IsPending pending new piece
IsKept pending new piece (Err fault) = (fault ≡ Memory) × IsPending pending new []

-- The parts of a text, given the places where they begin.
abbrev pub text_input : (bytes : List ℕ) → (start size from allowed : ℕ) → TextInput
text_input bytes start size from allowed = record {
  before = take start bytes;
  line = part start size bytes;
  end = part (start + size) (from - (start + size)) bytes;
  pending = drop from bytes;
  allowed = allowed;
}

-- The parts lie inside the text, and the searched pending bytes contain no LF.
pub record IsTextPlaced (bytes : List ℕ) (start size from searched : ℕ) : Type 0 where
  pub line_in : start + size ≤ from
  pub pending_in : from + searched ≤ length bytes
  pub plain : HasNoLf (take searched (drop from bytes))
