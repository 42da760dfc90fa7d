-- Lines that were handled, and the line or bytes after them, for the laws of streams.
-- Source: Drillolive.
use Rattle.std.specs.Prelude.{◌≡◌, ℕ, ◌<◌, ◌≤◌, Bool, true, false, List, [], ◌∷◌, ◌++◌, length, Option, Some, None}
use Rattle.subdiv_model.specs.Fault.{Fault, Obj}
use Rattle.subdiv_model.specs.ObjFault.{LongLine}
use Rattle.subdiv_model.specs.ObjMesh.{ObjMesh}
use Rattle.far_model.specs.Refusal.{Answer, refused}
use Rattle.far_model.specs.Stream.{LineRule, answer_of_lines}
use Rattle.far_model.specs.Frames.{Frame, words_of_lines, words_after, is_frames_line, has_frames, mesh_lines, frame_lines, frame_at, frames_rule}
use Rattle.stream_laws.specs.Handled.{has_lf, are_lines, text_of_lines, IsHandled, IsRefusedStart}

-- the answer of a text, and of the refusal after it, if there is one
abbrev pub answer_with : List ℕ → Option Fault → Answer
answer_with text refusal = record { text = text; refusal = refusal }

-- the second text begins with the first
abbrev pub BeginsWith : List ℕ → List ℕ → Type 0
BeginsWith first text = (rest : List ℕ) × (text ≡ first ++ rest)

-- lines that were handled, with their text
pub record Handled (rule : LineRule) : Type 0 where
  pub lines : List (List ℕ)
  pub text : List ℕ
  pub is_handled : IsHandled rule lines text

-- bytes without LF after handled lines
pub record Pending (rule : LineRule) : Type 0 where
  pub before : Handled rule
  pub bytes : List ℕ
  pub without_lf : has_lf bytes ≡ false

-- the bytes of handled lines
abbrev pub bytes_of : {rule : LineRule} → Handled rule → List ℕ
bytes_of at = text_of_lines at.lines

-- the bytes of the handled lines and the pending bytes
abbrev pub bytes_to : {rule : LineRule} → Pending rule → List ℕ
bytes_to at = text_of_lines at.before.lines ++ at.bytes

-- the bytes of the handled lines and the pending bytes, closed by LF
abbrev pub closed_to : {rule : LineRule} → Pending rule → List ℕ
closed_to at = text_of_lines at.before.lines ++ (at.bytes ++ 10 ∷ [])

-- the handled lines with the pending bytes as one more line
abbrev pub lines_to : {rule : LineRule} → Pending rule → List (List ℕ)
lines_to at = at.before.lines ++ at.bytes ∷ []

-- the answer that the pending bytes add as a line
abbrev pub added_by : {rule : LineRule} → Pending rule → Answer
added_by {rule = rule} at = rule.line at.before.lines at.bytes

-- the refusal of the pending bytes before LF closes them
abbrev pub unclosed_at : {rule : LineRule} → Pending rule → Option Fault
unclosed_at {rule = rule} at = rule.unclosed at.before.lines at.bytes

-- the text of the handled lines with that of the pending bytes as a line
abbrev pub text_with : {rule : LineRule} → Pending rule → List ℕ
text_with at = at.before.text ++ (added_by at).text

-- an input of these bytes has this answer, under each limit that they do not pass
abbrev pub IsAnswered : LineRule → List ℕ → Answer → Type 0
IsAnswered rule bytes answer = (limit : ℕ) → length bytes ≤ limit → answer_of_lines rule limit bytes ≡ answer

-- an input that begins with these bytes has this answer, whatever follows, under each limit that the bytes do not pass
abbrev pub IsAnsweredFrom : LineRule → List ℕ → Answer → Type 0
IsAnsweredFrom rule bytes answer = (limit : ℕ) (more : List ℕ) → length bytes ≤ limit → answer_of_lines rule limit (bytes ++ more) ≡ answer

-- the text of the handled lines, and then a refusal
abbrev pub refused_after : {rule : LineRule} → Pending rule → Fault → Answer
refused_after at fault = answer_with at.before.text (Some fault)

-- a line that is refused
pub record RefusedLine (rule : LineRule) : Type 0 where
  pub line : Pending rule
  pub fault : Fault
  pub is_refused : added_by line ≡ refused fault

-- pending bytes that are refused, whatever follows them
pub record RefusedStart (rule : LineRule) : Type 0 where
  pub start : Pending rule
  pub fault : Fault
  pub some : 0 < length start.bytes
  pub is_refused : IsRefusedStart rule start.before.lines start.bytes fault

-- lines that are all closed, and the refusal of the end of the input
pub record EndOfLines (rule : LineRule) : Type 0 where
  pub lines : Handled rule
  pub refusal : Option Fault
  pub ended : rule.end lines.lines ≡ answer_with [] refusal

-- a last line that is not closed, and the refusal of the end of the input
pub record EndOfLine (rule : LineRule) : Type 0 where
  pub line : Pending rule
  pub text : List ℕ
  pub refusal : Option Fault
  pub some : 0 < length line.bytes
  pub added : added_by line ≡ answer_with text None
  pub ended : rule.end (lines_to line) ≡ answer_with [] refusal

-- closed lines, and a last line that is not closed
pub record OpenText : Type 0 where
  pub lines : List (List ℕ)
  pub last : List ℕ
  pub closed : are_lines lines ≡ true
  pub without_lf : has_lf last ≡ false
  pub some : 0 < length last

-- the bytes of the text
abbrev pub bytes_of_text : OpenText → List ℕ
bytes_of_text text = text_of_lines text.lines ++ text.last

-- the lines of the text, with the open one
abbrev pub lines_of_text : OpenText → List (List ℕ)
lines_of_text text = text.lines ++ text.last ∷ []

-- the parameters of `frames`: a depth, and the fault and the mesh of lines
pub record Asked : Type 0 where
  pub depth : ℕ
  pub refusal : List (List (List ℕ)) → Option Fault
  pub mesh : List (List (List ℕ)) → ObjMesh

-- the rule of `frames` for these parameters
abbrev pub rule_for : Asked → LineRule
rule_for asked = frames_rule asked.depth asked.refusal asked.mesh

-- one of the lines is a line `frames`
abbrev pub have_frames : List (List ℕ) → Bool
have_frames lines = has_frames (words_of_lines lines)

-- lines of which one is a line `frames`
pub record LinesWithFrames : Type 0 where
  pub lines : List (List ℕ)
  pub are : have_frames lines ≡ true

-- lines whose last is the first line `frames`
pub record FirstFrames : Type 0 where
  pub before : List (List ℕ)
  pub line : List ℕ
  pub none_before : have_frames before ≡ false
  pub is_frames : is_frames_line (words_after before line) ≡ true

-- the words of the lines of the mesh
abbrev pub mesh_words : List (List ℕ) → List (List (List ℕ))
mesh_words lines = mesh_lines (words_of_lines lines)

-- the words of the frame lines
abbrev pub frame_words : List (List ℕ) → List (List (List ℕ))
frame_words lines = frame_lines (words_of_lines lines)

-- the current frame after the frame lines
abbrev pub frame_of : ObjMesh → List (List ℕ) → Frame
frame_of mesh lines = frame_at mesh (frame_words lines)

-- the fault of a line that is too long, by its number, counted from 1
abbrev pub long_line : ℕ → Fault
long_line number = Obj (record { line = number; cause = LongLine })
