-- A mesh that was read and then refined: its refusals, and the lines behind it.
use Rattle.std.proofs.Common.{◌≡◌, ℕ, ◌+◌, ◌≤◌, List, [], ◌∷◌, ◌++◌, length, Option, Some, None, Result, Ok, Err, MatchResult, IfOk, IfSome, arith, refl, ap, sym, subst, ◌∙◌, length-append}
use Rattle.far_io.specs.Text.{TextInput}
use Rattle.far_io.specs.declared.source.Source.{Ghosts as Source}
use Rattle.far_io.specs.declared.source.InputFault.{InputFault}
use Rattle.far_io.specs.declared.sink.Sink.{Ghosts as Sink}
use Rattle.subdiv_model.specs.Fault.{Fault, Usage, Read, Long, Obj, Mesh, TooLarge, Overflow, Limit, Place, Table, Differs, Controls, Write, Memory}
use Rattle.subdiv_model.specs.ObjMesh.{ObjMesh}
use Rattle.subdiv_model.specs.ReadObj.{obj_lines}
use Rattle.far_model.specs.Command.{FramesOptions, Frames, Stencils, Streams}
use Rattle.far_model.specs.Frames.{frame_lines}
use Rattle.far_model.specs.Answer.{frames_lines, frames_refusal, frames_mesh, rule_of}
use Rattle.far_fault.specs.View.{fault_of}
use Rattle.far_fault.specs.declared.fault.FarFault.{FarFault}
use Rattle.mesh_answers.specs.Refusals.{IsFound, refusal_of_mesh}
use Rattle.stream_laws.specs.Handled.{text_of_lines}
use Rattle.stream_laws.specs.Laws.{mesh_words, frame_words}
use Rattle.table_answers.specs.Posed.{Posed, IsPosedAfter}
use Rattle.table_answers.specs.FrameAnswers.{IsStart}
use Rattle.table_answers.specs.FrameStepCounts.{start_least, start_limit, frames_limit}
use Rattle.mesh_answers.specs.MeshText.{IsMeshText, IsTextFault}
use Rattle.far_engine.specs.Input.{input_fault_of}
use Rattle.far_engine.specs.Stream.{IsEnd}
use Rattle.far_engine.specs.StepCounts.{TakesSteps}
use Rattle.far_engine.specs.MeshPart.{AreLinesAfter, IsMeshRead, IsWholeMesh, IsBeforeFrames, IsRest, IsPart, IsPartOr}
use Rattle.far_engine.specs.FrameLines.{CanCount, begun, IsStreaming, RunsFrames, MayStream}
use Rattle.far_engine.specs.declared.frame_lines.FrameLines.{FrameLines}
use Rattle.far_engine.specs.declared.mesh_part.MeshPart.{MeshPart}
use Rattle.mesh_answers.proofs.TextLemmas.{composition-refusal, text-fault-found}
use Rattle.far_engine.proofs.RefusalLemmas.{frames-refuses}
use Rattle.far_engine.proofs.StepLemmas.{HasFrameLines, takes-none, takes-steps}
use Rattle.far_engine.proofs.StreamLemmas.{runs-end, written-nothing}

-- a fault that was found is the refusal, or memory ran out
found-is : (P : Fault → Type 0) (fault : Fault) (refusal : Option Fault) → IsFound fault refusal → (refusal ≡ Some fault → P fault) → P Memory → P fault
found-is P Memory refusal found is short = short
found-is P (Obj fault) refusal found is short = is found
found-is P (Mesh fault) refusal found is short = is found
found-is P (TooLarge counted) refusal found is short = is found
found-is P (Overflow track level kind) refusal found is short = is found
found-is P (Limit cause) refusal found is short = is found
found-is P (Place fault) refusal found is short = is found
found-is P (Table fault) refusal found is short = is found
found-is P (Differs row) refusal found is short = is found
found-is P (Controls count) refusal found is short = is found
found-is P (Usage word) refusal found is short = absurd found
found-is P Read refusal found is short = absurd found
found-is P Long refusal found is short = absurd found
found-is P Write refusal found is short = absurd found

-- a fault of the text is the refusal, or memory ran out
text-fault-is : (P : Fault → Type 0) (bytes : List ℕ) (options : FramesOptions) (fault : Fault) → IsTextFault bytes options.scale fault
    → (frames_refusal options (obj_lines bytes) ≡ Some fault → P fault) → P Memory → P fault
text-fault-is P bytes options fault is refused short =
    found-is P fault (frames_refusal options (obj_lines bytes)) (text-fault-found options.depth options.scale bytes fault is) refused short

-- each line has its line feed
lines-fit : (lines : List (List ℕ)) → length lines ≤ length (text_of_lines lines)
lines-fit [] = omega arith
lines-fit (line ∷ lines) =
    omega (arith, lines-fit lines, length-append (line ++ 10 ∷ []) (text_of_lines lines), length-append line (10 ∷ []))

module _ {S : Type 0} (source : Source S) (options : FramesOptions) (s t : S) where
  read-of : (bytes : List ℕ) (lines : Option FrameLines) → IsRest source options s t bytes lines → IsMeshRead source options s t bytes
  read-of bytes None rest = rest.read
  read-of bytes (Some lines) rest = rest.0.read

  -- the numbers of all lines fit
  rest-counts : (bytes : List ℕ) (lines : Option FrameLines) → IsRest source options s t bytes lines → IfSome lines CanCount
  rest-counts bytes None rest = tt
  rest-counts bytes (Some lines) rest =
      let at = rest.0 in
      omega (arith, at.number_is, lines-fit at.lines, at.took.counted, length-append (text_of_lines at.lines) lines.reader.pending)

  pub part-counts : (part : MeshPart) → IsPart source options s t part → IfSome part.lines CanCount
  part-counts part is = rest-counts is.bytes part.lines is.rest

  -- the text has a mesh, with the lines that follow it, or a fault
  pub part-made : (bytes : List ℕ) (lines : Option FrameLines) → IsRest source options s t bytes lines → (r : Result MeshPart FarFault)
      → MatchResult r (λ part. IsMeshText bytes options.scale part.mesh) (λ fault. IsTextFault bytes options.scale (fault_of fault))
      → IfOk r (λ part. part.lines ≡ lines) → IsPartOr source options s t r
  part-made bytes lines rest (Ok part) is same =
      record { bytes = bytes; text = is; rest = subst (IsRest source options s t bytes) (sym same) rest }
  part-made bytes lines rest (Err fault) is same =
      let read = read-of bytes lines rest in
      text-fault-is (λ f. IsEnd source (rule_of (Frames options)) s t [] (Some f)) bytes options (fault_of fault) is (read.refused (fault_of fault)) read.no_memory

  -- the input failed
  pub part-ended : (fault : Fault) (input : InputFault) → fault ≡ input_fault_of input → IsEnd source (rule_of (Frames options)) s t [] (Some (input_fault_of input))
      → IsEnd source (rule_of (Frames options)) s t [] (Some fault)
  part-ended fault input is ended = subst (λ f. IsEnd source (rule_of (Frames options)) s t [] (Some f)) (sym is) ended

  -- frame lines follow the text
  pub part-before : (text : TextInput) (number : ℕ) → IsBeforeFrames source options s t text.before text.pending text.allowed number → (r : Result MeshPart FarFault)
      → MatchResult r (λ part. IsMeshText text.before options.scale part.mesh) (λ fault. IsTextFault text.before options.scale (fault_of fault))
      → IfOk r (λ part. AreLinesAfter text number part.lines) → IsPartOr source options s t r
  part-before text number before (Ok part) is after = record { bytes = text.before; text = is; rest = rest-after part.lines after }
    where
      rest-after : (lines : Option FrameLines) → AreLinesAfter text number lines → IsRest source options s t text.before lines
      rest-after None none = absurd none
      rest-after (Some lines) is = (
        subst (λ n. IsBeforeFrames source options s t text.before lines.reader.pending lines.reader.allowed n) (sym is.0)
            (subst (λ pending. IsBeforeFrames source options s t text.before pending lines.reader.allowed number) (sym is.1)
            (subst (λ allowed. IsBeforeFrames source options s t text.before text.pending allowed number) (sym is.2) before)),
        is.3,
      )
  part-before text number before (Err fault) is after =
      text-fault-is (λ f. IsEnd source (rule_of (Frames options)) s t [] (Some f)) text.before options (fault_of fault) is (before.read.refused (fault_of fault)) before.read.no_memory

module _ {S K : Type 0} (source : Source S) (sink : Sink K) (options : FramesOptions) (s t : S) (k : K) (n : ℕ) where
  -- the run ends before a mesh is there
  pub part-fails : (fault : Fault) → IsEnd source (rule_of (Frames options)) s t [] (Some fault) → RunsFrames (begun source sink options s k n) t k (Some fault) n
  part-fails fault ended = record {
    run = runs-end source sink (frames-refuses options) s t k k [] (Some fault) ended (written-nothing sink k) (λ e. refl);
    taken = takes-none source options s t (Some fault) n ended.taken.0 ended.taken.1 (λ e. cc);
  }

  module _ (bytes : List ℕ) (read : IsMeshRead source options s t bytes) (mesh : ObjMesh) (text : IsMeshText bytes options.scale mesh) (n' : ℕ) where
    no-frame-lines : (all : List ℕ) → frames_lines all ≡ obj_lines bytes → HasFrameLines all (obj_lines bytes) []
    no-frame-lines all is = record { mesh_is = is; others = frame_lines (obj_lines all); frames_are = refl }

    takes-start : (outcome : Option Fault) → n ≤ n' → (outcome ≡ None → n + start_least options.depth mesh ≤ n') → n' ≤ n + start_limit options.depth mesh
        → TakesSteps source (Streams (Frames options)) s t outcome n n'
    takes-start outcome later least most =
        takes-steps source options s t (obj_lines bytes) [] outcome n n' later
        (λ e. subst (λ m. n + start_least options.depth m ≤ n') text.mesh_is (least e))
        (subst (λ m. n' ≤ n + frames_limit options.depth m []) text.mesh_is (omega (arith, most)))
        read.of_taken.0 read.of_taken.1 (no-frame-lines read.of_taken.0 read.of_taken.2)
        (λ all had. no-frame-lines all (read.of_known all had))

    -- the mesh is refused, or memory ran out
    start-ends : (fault : Fault) → IsFound fault (refusal_of_mesh (Stencils options.depth) mesh) → n ≤ n' → n' ≤ n + start_limit options.depth mesh
        → RunsFrames (begun source sink options s k n) t k (Some fault) n'
    start-ends fault found later most = record {
      run =
          runs-end source sink (frames-refuses options) s t k k [] (Some fault)
          (found-is (λ f. IsEnd source (rule_of (Frames options)) s t [] (Some f)) fault (refusal_of_mesh (Stencils options.depth) mesh) found
          (λ e. read.refused fault (composition-refusal options.depth options.scale bytes mesh text ∙ e)) read.no_memory)
          (written-nothing sink k) (λ e. refl);
      taken = takes-start (Some fault) later (λ e. absurd (cc)) most;
    }

    -- the mesh is not refused, and there are no frame lines
    whole-ends : IsWholeMesh source options s t bytes → refusal_of_mesh (Stencils options.depth) mesh ≡ None → n + start_least options.depth mesh ≤ n'
        → n' ≤ n + start_limit options.depth mesh → RunsFrames (begun source sink options s k n) t k None n'
    whole-ends whole good least most = record {
      run =
          runs-end source sink (frames-refuses options) s t k k [] None (whole.ended (composition-refusal options.depth options.scale bytes mesh text ∙ good)) (written-nothing sink k) (λ e. refl);
      taken = takes-start None (omega (arith, least)) (λ e. least) most;
    }

    -- the mesh is not refused, and there are frame lines
    frames-begin : (at : FrameLines) (before : IsBeforeFrames source options s t bytes at.reader.pending at.reader.allowed at.passed) → at.reader.room ≡ 65536
        → refusal_of_mesh (Stencils options.depth) mesh ≡ None → (posed : Posed) → posed.depth ≡ options.depth → IsPosedAfter mesh [] posed
        → n + start_least options.depth mesh ≤ n' → n' ≤ n + start_limit options.depth mesh → IsStreaming (begun source sink options s k n) t k at posed n'
    frames-begin at before room good posed depth posed_after least most =
        let same : mesh ≡ frames_mesh options (mesh_words before.lines) = text.mesh_is ∙ ap (frames_mesh options) (sym before.mesh_is) in
        record {
          lines = before.lines;
          text = [];
          read = record {
            took = before.took;
            handled = before.handled (composition-refusal options.depth options.scale bytes mesh text ∙ good);
            frames = before.frames;
            room = room;
            passed = before.number_is;
          };
          written = written-nothing sink k;
          posed_after =
              subst (λ m. IsPosedAfter m (frame_words before.lines) posed) same (subst (λ words. IsPosedAfter mesh words posed) (sym before.none) posed_after);
          depth = depth;
          least = subst (λ m. n + start_least options.depth m ≤ n') same least;
          most =
              subst (λ m. n' ≤ n + frames_limit options.depth m (frame_words before.lines)) same
              (subst (λ words. n' ≤ n + frames_limit options.depth mesh words) (sym before.none) (omega (arith, most)));
        }

  -- The mesh is refined, or it is refused.
  module _ (part : MeshPart) (is : IsPart source options s t part) (n' : ℕ) where
    pub part-refused : (fault : FarFault) → IsStart part.mesh options.depth (Err fault) (λ (p : Posed). p) n n' → RunsFrames (begun source sink options s k n) t k (Some (fault_of fault)) n'
    part-refused fault start =
        start-ends is.bytes (read-of source options s t is.bytes part.lines is.rest) part.mesh is.text n' (fault_of fault) start.posed start.steps.later start.steps.most

    pub part-begins : (posed : Posed) → IsStart part.mesh options.depth (Ok posed) (λ (p : Posed). p) n n' → MayStream (begun source sink options s k n) t k part.lines posed n'
    part-begins posed start = by part.lines is.rest
      where
        by : (lines : Option FrameLines) → IsRest source options s t is.bytes lines → MayStream (begun source sink options s k n) t k lines posed n'
        by None rest =
            whole-ends is.bytes rest.read part.mesh is.text n' rest start.posed.0 start.steps.least start.steps.most
        by (Some at) rest =
            frames-begin is.bytes rest.0.read part.mesh is.text n' at rest.0 rest.1 start.posed.0 posed start.posed.1 start.posed.2 start.steps.least start.steps.most
