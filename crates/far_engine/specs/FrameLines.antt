-- The state of a run over the frame lines of a source: what it has read, written and counted.
use Rattle.std.specs.Prelude.{ℕ, ◌≡◌, ◌≢◌, ◌^◌, ◌+◌, ◌<◌, ◌≤◌, Bool, true, false, List, [], ◌∷◌, ◌++◌, length, Option, Some, None, Result, Ok, Err}
use Rattle.std.specs.Result.{result_map_both}
use Rattle.far_io.specs.Bytes.{Took}
use Rattle.far_io.specs.Lines.{LineInput}
use Rattle.far_io.specs.declared.source.Source.{Ghosts as Source}
use Rattle.far_io.specs.declared.sink.Sink.{Ghosts as Sink}
use Rattle.far_io.specs.declared.source.ReadFailed.{ReadFailed}
use Rattle.far_io.specs.declared.lines.NextLine.{NextLine}
use Rattle.far_io.specs.declared.lines.NextLine.TheVariants as lines
use Rattle.far_io.specs.declared.text.NextText.{NextText}
use Rattle.far_io.specs.declared.text.NextText.TheVariants.{Closed, Last, End}
use Rattle.subdiv_model.specs.Fault.{Fault, Read, Long, Obj, Memory}
use Rattle.subdiv_model.specs.ObjFault.{LongLine}
use Rattle.subdiv_model.specs.ObjMesh.{ObjMesh}
use Rattle.far_model.specs.Command.{FramesOptions, Frames, Streams}
use Rattle.far_model.specs.Answer.{frames_mesh, rule_of}
use Rattle.far_fault.specs.View.{fault_of}
use Rattle.far_fault.specs.declared.fault.FarFault.{FarFault}
use Rattle.stream_laws.specs.Handled.{has_lf, text_of_lines, IsHandled}
use Rattle.stream_laws.specs.Laws.{have_frames, mesh_words, frame_words}
use Rattle.table_answers.specs.FrameAnswers.{AnswersLine}
use Rattle.table_answers.specs.Posed.{Posed, IsPosedAfter}
use Rattle.table_answers.specs.FrameStepCounts.{start_least, frames_limit}
use Rattle.far_engine.specs.Stream.{TookLines, TookAll, IsWritten, IsEnd}
use Rattle.far_engine.specs.Runs.{RunsStream}
use Rattle.far_engine.specs.StepCounts.{TakesSteps}
use Rattle.far_engine.specs.declared.frame_lines.FrameLines.{FrameLines}

-- the number of bytes that may still pass; each of them may close a line, and the numbers of all lines fit
abbrev pub bytes_left : FrameLines → ℕ
bytes_left at = length at.reader.pending + at.reader.allowed

-- the lines passed and the bytes that may still pass are at most 2^28 together
abbrev pub CanCount : FrameLines → Type 0
CanCount at = at.passed + bytes_left at ≤ 2 ^ 28

-- A reader has read these lines of a source, one of which is a line `frames`; their answers are this text.
pub record IsAtFrames {S : Type 0} (source : Source S) (options : FramesOptions) (s s' : S) (lines : List (List ℕ)) (text : List ℕ) (at : FrameLines) : Type 0 where
  pub took : TookLines source s s' lines at.reader.pending at.reader.allowed
  pub handled : IsHandled (rule_of (Frames options)) lines text
  pub frames : have_frames lines ≡ true
  pub room : at.reader.room ≡ 65536
  pub passed : at.passed ≡ length lines

-- the reader is at a line that a line feed closes
pub record IsAtClosed {S : Type 0} (source : Source S) (s s' : S) (lines : List (List ℕ)) (reader : LineInput) : Type 0 where
  pub took : TookLines source s s' (lines ++ reader.line ∷ []) reader.pending reader.allowed
  pub plain : has_lf reader.line ≡ false
  pub room : reader.room ≡ 65536

-- the reader is at a last line, which no line feed closes
pub record IsAtLast {S : Type 0} (source : Source S) (s s' : S) (lines : List (List ℕ)) (reader : LineInput) : Type 0 where
  pub took : TookAll source s s' lines reader.line
  pub some : 0 < length reader.line

-- the reader found no line, and the stream ends; the taken bytes begin with these lines
pub record IsAtEnd {S : Type 0} (source : Source S) (options : FramesOptions) (s s' : S) (lines : List (List ℕ)) (text : List ℕ) (outcome : Option Fault) : Type 0 where
  pub ended : IsEnd source (rule_of (Frames options)) s s' text outcome
  pub not_memory : outcome ≢ Some Memory
  pub more : List ℕ
  pub took : Took (source.left s) (source.left s') (text_of_lines lines ++ more)

-- the result of a reader of lines at a line of this number, with its faults as those of a run
abbrev pub next_of : ℕ → Result NextLine ReadFailed → Result NextText Fault
next_of number (Ok lines.Closed) = Ok Closed
next_of number (Ok lines.Last) = Ok Last
next_of number (Ok lines.End) = Ok End
next_of number (Ok lines.Full) = Err (Obj (record { line = number; cause = LongLine }))
next_of number (Ok lines.Long) = Err Long
next_of number (Err failed) = Err Read

-- the result of a reader, with its fault as one of the definitions
abbrev pub next_of_code : Result NextText FarFault → Result NextText Fault
next_of_code result = result_map_both (λ next. next) fault_of result

-- the result of a move to the next line
abbrev pub MovesOn : {S : Type 0} → Source S → FramesOptions → S → S → List (List ℕ) → List ℕ → LineInput → Result NextText Fault → Type 0
MovesOn source options s s' lines text reader (Ok Closed) = IsAtClosed source s s' lines reader
MovesOn source options s s' lines text reader (Ok Last) = IsAtLast source s s' lines reader
MovesOn source options s s' lines text reader (Ok End) = IsAtEnd source options s s' lines text None
MovesOn source options s s' lines text reader (Err fault) = IsAtEnd source options s s' lines text (Some fault)

-- the result of a reader, at any line
abbrev pub Moves : {S : Type 0} → Source S → S → S → FrameLines → FrameLines → Result NextText FarFault → Type 0
Moves {S = S} source t u old new result = (options : FramesOptions) (s : S) (lines : List (List ℕ)) (text : List ℕ)
    → IsAtFrames source options s t lines text old → MovesOn source options s u lines text new.reader (next_of_code result)

-- a line of this number is answered, after any lines
abbrev pub AnswersFrame : {K : Type 0} → Sink K → ℕ → List ℕ → Posed → Posed → K → K → Result (Unit {0}) FarFault → ℕ → Type 0
AnswersFrame sink number line old new k k' result taken = (mesh : ObjMesh) (before : List (List (List ℕ)))
    → IsPosedAfter mesh before old → AnswersLine sink mesh before number line old new k k' result taken

-- the request of a run of `frames`, with its source and its sink
pub record Origin {S K : Type 0} (source : Source S) (sink : Sink K) : Type 0 where
  pub options : FramesOptions
  pub first : S
  pub before : K
  pub steps : ℕ

-- the start of a run: its options, source, sink and steps
abbrev pub begun : {S K : Type 0} (source : Source S) (sink : Sink K) → FramesOptions → S → K → ℕ → Origin source sink
begun source sink options s k steps = record { options = options; first = s; before = k; steps = steps }

-- All lines so far are answered.
pub record IsStreaming {S K : Type 0} {source : Source S} {sink : Sink K} (from : Origin source sink) (s : S) (k : K) (at : FrameLines) (posed : Posed) (steps : ℕ) : Type 0 where
  pub lines : List (List ℕ)
  pub text : List ℕ
  pub read : IsAtFrames source from.options from.first s lines text at
  pub written : IsWritten sink from.before k text
  pub posed_after : IsPosedAfter (frames_mesh from.options (mesh_words lines)) (frame_words lines) posed
  pub depth : posed.depth ≡ from.options.depth
  pub least : from.steps + start_least from.options.depth (frames_mesh from.options (mesh_words lines)) ≤ steps
  pub most : steps ≤ from.steps + frames_limit from.options.depth (frames_mesh from.options (mesh_words lines)) (frame_words lines)

-- The effect of a run of `frames`, and its number of steps.
pub record RunsFrames {S K : Type 0} {source : Source S} {sink : Sink K} (from : Origin source sink) (s : S) (k : K) (outcome : Option Fault) (steps : ℕ) : Type 0 where
  pub run : RunsStream source sink (rule_of (Frames from.options)) from.first s from.before k outcome
  pub taken : TakesSteps source (Streams (Frames from.options)) from.first s outcome from.steps steps

-- one more line is answered, or the run ended
abbrev pub GoesOn : {S K : Type 0} {source : Source S} {sink : Sink K} → Origin source sink → S → K → FrameLines → Posed → ℕ → Result Bool FarFault → Type 0
GoesOn from s k at posed steps (Ok true) = IsStreaming from s k at posed steps
GoesOn from s k at posed steps (Ok false) = RunsFrames from s k None steps
GoesOn from s k at posed steps (Err fault) = RunsFrames from s k (Some (fault_of fault)) steps

-- the mesh is refined and its frame lines, if any, are to be answered
abbrev pub MayStream : {S K : Type 0} {source : Source S} {sink : Sink K} → Origin source sink → S → K → Option FrameLines → Posed → ℕ → Type 0
MayStream from s k (Some at) posed steps = IsStreaming from s k at posed steps
MayStream from s k None posed steps = RunsFrames from s k None steps
