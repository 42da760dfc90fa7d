-- The lines of a mesh at the beginning of a source, and the lines behind them.
use Rattle.std.specs.Prelude.{ℕ, ◌≡◌, ◌^◌, ◌≤◌, true, false, List, [], ◌∷◌, ◌++◌, length, Option, Some, None, Result, Ok, Err}
use Rattle.far_io.specs.Bytes.{Took}
use Rattle.far_io.specs.Text.{TextInput, passed}
use Rattle.far_io.specs.declared.source.Source.{Ghosts as Source}
use Rattle.far_io.specs.declared.source.InputFault.{InputFault}
use Rattle.far_io.specs.declared.sink.Sink.{Ghosts as Sink}
use Rattle.subdiv_model.specs.Fault.{Fault, Memory}
use Rattle.subdiv_model.specs.ReadObj.{obj_lines}
use Rattle.far_model.specs.Command.{FramesOptions, Frames}
use Rattle.far_model.specs.Answer.{frames_refusal, frames_lines, rule_of}
use Rattle.stream_laws.specs.Handled.{text_of_lines, IsHandled}
use Rattle.stream_laws.specs.Laws.{have_frames, mesh_words, frame_words}
use Rattle.far_fault.specs.View.{fault_of}
use Rattle.far_fault.specs.declared.fault.FarFault.{FarFault}
use Rattle.mesh_answers.specs.MeshText.{IsMeshText}
use Rattle.far_engine.specs.Input.{input_fault_of}
use Rattle.far_engine.specs.Stream.{TookLines, IsEnd}
use Rattle.far_engine.specs.FrameLines.{RunsFrames, begun}
use Rattle.far_engine.specs.declared.mesh_part.MeshEnd.{MeshEnd}
use Rattle.far_engine.specs.declared.mesh_part.MeshEnd.TheVariants.{Closed, Last, Input}
use Rattle.far_engine.specs.declared.mesh_part.MeshPart.{MeshPart}
use Rattle.far_engine.specs.declared.frame_lines.FrameLines.{FrameLines}

-- these lines were read so far, and none of them is a line `frames`
pub record IsMeshLines {S : Type 0} (source : Source S) (s s' : S) (text : TextInput) (lines : List (List ℕ)) : Type 0 where
  pub took : TookLines source s s' lines text.pending text.allowed
  pub none : have_frames lines ≡ false
  pub passed_is : passed text ≡ text_of_lines lines

-- All lines of a mesh were read, and these bytes are their text.
pub record IsMeshRead {S : Type 0} (source : Source S) (options : FramesOptions) (s s' : S) (bytes : List ℕ) : Type 0 where
  -- a refusal of these lines is the refusal of all bytes of the source, and memory may run out
  pub refused : (fault : Fault) → frames_refusal options (obj_lines bytes) ≡ Some fault → IsEnd source (rule_of (Frames options)) s s' [] (Some fault)
  pub no_memory : IsEnd source (rule_of (Frames options)) s s' [] (Some Memory)
  -- these are the lines of the mesh in the bytes that were taken, and in all bytes
  pub of_taken : (taken : List ℕ) × Took (source.left s) (source.left s') taken × (frames_lines taken ≡ obj_lines bytes)
  pub of_known : (all : List ℕ) → source.left s ≡ Some all → frames_lines all ≡ obj_lines bytes
  pub short : length bytes ≤ 2 ^ 28

-- The input ended with the lines of the mesh, or with a line `frames` behind them.
pub record IsWholeMesh {S : Type 0} (source : Source S) (options : FramesOptions) (s s' : S) (bytes : List ℕ) : Type 0 where
  pub read : IsMeshRead source options s s' bytes
  pub ended : frames_refusal options (obj_lines bytes) ≡ None → IsEnd source (rule_of (Frames options)) s s' [] None

-- A line `frames` of this number follows the lines of the mesh, and a line feed closes it.
pub record IsBeforeFrames {S : Type 0} (source : Source S) (options : FramesOptions) (s s' : S) (bytes pending : List ℕ) (allowed number : ℕ) : Type 0 where
  pub read : IsMeshRead source options s s' bytes
  pub lines : List (List ℕ)
  pub took : TookLines source s s' lines pending allowed
  pub handled : frames_refusal options (obj_lines bytes) ≡ None → IsHandled (rule_of (Frames options)) lines []
  pub frames : have_frames lines ≡ true
  pub mesh_is : mesh_words lines ≡ obj_lines bytes
  pub none : frame_words lines ≡ []
  pub number_is : number ≡ length lines

-- the end of the lines of a mesh in a text, or the fault
abbrev pub EndsMesh : {S : Type 0} → Source S → S → S → TextInput → Result MeshEnd InputFault → Type 0
EndsMesh source s s' text (Ok (Closed number)) =
    (options : FramesOptions) → IsBeforeFrames source options s s' text.before text.pending text.allowed number
EndsMesh source s s' text (Ok Last) = (options : FramesOptions) → IsWholeMesh source options s s' text.before
EndsMesh source s s' text (Ok Input) = (options : FramesOptions) → IsWholeMesh source options s s' (passed text)
EndsMesh source s s' text (Err fault) = (options : FramesOptions) → IsEnd source (rule_of (Frames options)) s s' [] (Some (input_fault_of fault))

-- one more line of a text, after these lines
abbrev pub FindsMeshEnd : {S : Type 0} → Source S → S → S → List (List ℕ) → TextInput → Result (Option MeshEnd) InputFault → Type 0
FindsMeshEnd source s s' lines text (Ok None) = IsMeshLines source s s' text (lines ++ text.line ∷ [])
FindsMeshEnd source s s' lines text (Ok (Some end)) = EndsMesh source s s' text (Ok end)
FindsMeshEnd source s s' lines text (Err fault) = EndsMesh source s s' text (Err fault)

-- the text behind the mesh, after this number of lines: nothing, or frame lines
abbrev pub IsRest : {S : Type 0} → Source S → FramesOptions → S → S → List ℕ → Option FrameLines → Type 0
IsRest source options s s' bytes None = IsWholeMesh source options s s' bytes
IsRest source options s s' bytes (Some lines) =
    IsBeforeFrames source options s s' bytes lines.reader.pending lines.reader.allowed lines.passed × (lines.reader.room ≡ 65536)

-- the frame lines behind a text, by the number of its present line
abbrev pub AreLinesAfter : TextInput → ℕ → Option FrameLines → Type 0
AreLinesAfter text number (Some lines) =
    (lines.passed ≡ number) × (lines.reader.pending ≡ text.pending) × (lines.reader.allowed ≡ text.allowed) × (lines.reader.room ≡ 65536)
AreLinesAfter text number None = ⊥

-- The mesh of a source was read.
pub record IsPart {S : Type 0} (source : Source S) (options : FramesOptions) (s s' : S) (part : MeshPart) : Type 0 where
  pub bytes : List ℕ
  pub text : IsMeshText bytes options.scale part.mesh
  pub rest : IsRest source options s s' bytes part.lines

-- the source has no mesh, and the stream ends
abbrev pub IsPartOr : {S : Type 0} → Source S → FramesOptions → S → S → Result MeshPart FarFault → Type 0
IsPartOr source options s s' (Ok part) = IsPart source options s s' part
IsPartOr source options s s' (Err fault) = IsEnd source (rule_of (Frames options)) s s' [] (Some (fault_of fault))

-- the run of `frames` from the start of a source whose mesh was read
abbrev pub RunsBehind : {S K : Type 0} → (source : Source S) → (sink : Sink K) → FramesOptions → MeshPart → S → S → K → K → Option Fault → ℕ → ℕ → Type 0
RunsBehind {S} {K} source sink options part s s' k k' outcome old new =
    (first : S) → IsPart source options first s part → RunsFrames (begun source sink options first k old) s' k' outcome new
