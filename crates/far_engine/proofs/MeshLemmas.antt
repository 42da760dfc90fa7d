-- The lines of a mesh, one after another, and their end.
use Rattle.std.proofs.Common.{◌≡◌, ℕ, suc, ◌+◌, ◌<◌, ◌≤◌, true, false, List, [], ◌∷◌, ◌++◌, length, Option, Some, None, Result, Ok, Err, arith, refl, ap, sym, subst, ◌∙◌, append_assoc, append-nil, length-append, true≢false, ⊎_elim, eq-zero-or-pos}
use Rattle.far_io.specs.Bytes.{Took, IsDry}
use Rattle.far_io.specs.Text.{TextInput, passed, ReadsText}
use Rattle.far_io.specs.declared.source.Source.{Ghosts as Source}
use Rattle.far_io.specs.declared.source.InputFault.{InputFault}
use Rattle.far_io.specs.declared.source.InputFault.TheVariants.{Read as ReadFailed, Long as TooLong, Memory as NoMemory}
use Rattle.far_io.specs.declared.text.NextText.{NextText}
use Rattle.far_io.specs.declared.text.NextText.TheVariants.{Closed, Last, End}
use Rattle.far_io.proofs.BytesLemmas.{Took-more}
use Rattle.subdiv_model.specs.Fault.{Fault}
use Rattle.subdiv_model.specs.ObjLine.{line_words}
use Rattle.subdiv_model.specs.ReadObj.{obj_lines}
use Rattle.far_model.specs.Command.{FramesOptions, Frames}
use Rattle.far_model.specs.Refusal.{answer_unless}
use Rattle.far_model.specs.Frames.{words_of_lines, words_after, has_frames, is_frames_line, mesh_lines}
use Rattle.far_model.specs.Answer.{frames_refusal, frames_mesh, frames_lines, rule_of, byte_limit}
use Rattle.stream_laws.specs.Handled.{has_lf, are_lines, text_of_lines, IsHandled}
use Rattle.stream_laws.specs.Laws.{have_frames, answer_with}
use Rattle.stream_laws.specs.Marked.{bytes_after}
use Rattle.stream_laws.proofs.CutLemmas.{text-more}
use Rattle.stream_laws.proofs.HandledLemmas.{handled-more}
use Rattle.stream_laws.proofs.WordLemmas.{text-words, last-words, only-mark, words-bytes}
use Rattle.stream_laws.proofs.MarkLemmas.{last-refusal}
use Rattle.stream_laws.proofs.FrameLemmas.{mesh-all, line-none, line-there, line-mesh, line-frames}
use Rattle.stream_laws.proofs.RuleLemmas.{mesh-line, frames-line, unclosed-mesh, mesh-end, frames-end, mesh-handled}
use Rattle.far_engine.specs.Input.{input_fault_of}
use Rattle.far_engine.specs.Stream.{TookLines, TookAll, IsEnd}
use Rattle.far_engine.specs.MeshPart.{IsMeshLines, IsWholeMesh, IsBeforeFrames}
use Rattle.far_engine.proofs.InputLemmas.{all-taken}
use Rattle.far_engine.proofs.RefusalLemmas.{IsOfLines, frames-refusal}
use Rattle.far_engine.proofs.StepLemmas.{has-lines}
use Rattle.far_engine.proofs.StreamLemmas.{all-known, took-closed, took-pending, took-all, took-long, ends-without-memory, ends-failed, ends-long, ends-at-line, ends-at-last, ends-after-last, ends-after-lines, rose-later}

one-more : (lines : List (List ℕ)) (line : List ℕ) → suc (length lines) ≡ length (lines ++ line ∷ [])
one-more lines line = omega (arith, length-append lines (line ∷ []))

-- a line with words has bytes after the mark
some-bytes : (lines : List (List ℕ)) (line : List ℕ) → is_frames_line (words_after lines line) ≡ true → 0 < length (bytes_after lines line)
some-bytes lines line is = here (bytes_after lines line) (ap is_frames_line (sym (words-bytes lines line)) ∙ is)
  where
    here : (bytes : List ℕ) → is_frames_line (line_words bytes) ≡ true → 0 < length bytes
    here [] e = absurd (true≢false (sym e))
    here (b ∷ bytes) e = omega arith

-- the lines of a text have no line `frames` if its last, unclosed line is none
last-none : (lines : List (List ℕ)) (line : List ℕ) → are_lines lines ≡ true → have_frames lines ≡ false → has_lf line ≡ false → 0 < length line
    → is_frames_line (words_after lines line) ≡ false → has_frames (obj_lines (text_of_lines lines ++ line)) ≡ false
last-none lines line closed none plain some no-frames =
    ⊎_elim (λ empty. mark-none lines line some empty)
    (λ more. ap has_frames (last-words lines line closed plain more) ∙ line-none lines line none no-frames)
    (eq-zero-or-pos (length (bytes_after lines line)))
  where
    mark-none : (lines : List (List ℕ)) (line : List ℕ) → 0 < length line → length (bytes_after lines line) ≡ 0 → has_frames (obj_lines (text_of_lines lines ++ line)) ≡ false
    mark-none [] line some empty = ap has_frames (only-mark line empty).0
    mark-none (first ∷ lines) line some empty = absurd (omega arith)

module _ {S : Type 0} (source : Source S) (options : FramesOptions) (s s' : S) (lines : List (List ℕ)) (closed : are_lines lines ≡ true) (none : have_frames lines ≡ false) where
  text-is : obj_lines (text_of_lines lines) ≡ words_of_lines lines
  text-is = text-words lines closed

  before-handled : IsHandled (rule_of (Frames options)) lines []
  before-handled = mesh-handled options.depth (frames_refusal options) (frames_mesh options) lines closed none

  -- the line `frames` ends the mesh
  at-frames : (line : List ℕ) (refusal : Option Fault) → is_frames_line (words_after lines line) ≡ true → frames_refusal options (obj_lines (text_of_lines lines)) ≡ refusal
      → (rule_of (Frames options)).line lines line ≡ answer_unless refusal []
  at-frames line refusal is e =
      frames-line options.depth (frames_refusal options) (frames_mesh options) lines line none is
      ∙ ap (λ fault. answer_unless fault []) (ap (frames_refusal options) (sym text-is) ∙ e)

  -- the end belongs to these lines
  of-lines : (words : List (List (List ℕ))) (refusal : Option Fault) → frames_refusal options words ≡ refusal → IsOfLines refusal
  of-lines words refusal e = subst IsOfLines e (frames-refusal options words)

  -- a line `frames` that a line feed closes
  module _ (line pending : List ℕ) (allowed : ℕ) (took : TookLines source s s' (lines ++ line ∷ []) pending allowed) (plain : has_lf line ≡ false)
      (is : is_frames_line (words_after lines line) ≡ true) where
    has-mesh : (more : List ℕ) → frames_lines (text_of_lines (lines ++ line ∷ []) ++ more) ≡ obj_lines (text_of_lines lines)
    has-mesh more =
        let has = has-lines (lines ++ line ∷ []) more took.closed (line-there lines line is) in
        has.mesh_is ∙ line-mesh lines line none is ∙ sym text-is

    pub before-frames : IsBeforeFrames source options s s' (text_of_lines lines) pending allowed (suc (length lines))
    before-frames =
        let all = text_of_lines (lines ++ line ∷ []) in
        record {
          read = record {
            refused = λ fault e.
                ends-at-line source (rule_of (Frames options)) s s' lines [] before-handled line pending allowed fault took plain (at-frames line (Some fault) is e)
                (of-lines (obj_lines (text_of_lines lines)) (Some fault) e);
            no_memory = ends-without-memory source (rule_of (Frames options)) s s' [] (all ++ pending, took.took) took.later;
            of_taken = (all ++ pending, took.took, has-mesh pending);
            of_known = λ bytes had.
                let known = all-known (source.left s) (source.left s') (all ++ pending) bytes took.took had in
                ap frames_lines (known.1 ∙ append_assoc all pending known.0) ∙ has-mesh (pending ++ known.0);
            short = omega (arith, took.counted, length-append all pending, ap length (text-more lines line []), length-append (text_of_lines lines) (line ++ 10 ∷ []), length-append all []);
          };
          lines = lines ++ line ∷ [];
          took = took;
          handled = λ e. handled-more before-handled plain (at-frames line None is e);
          frames = line-there lines line is;
          mesh_is = line-mesh lines line none is ∙ sym text-is;
          none = line-frames lines line none is;
          number_is = one-more lines line;
        }

  -- the input ended after these bytes
  whole-read : (bytes rest taken : List ℕ) → Took (source.left s) (source.left s') taken → IsDry (source.left s') → source.faults s ≤ source.faults s'
      → taken ≡ bytes ++ rest → length taken ≤ byte_limit → frames_lines taken ≡ obj_lines bytes
      → ((refusal : Option Fault) → frames_refusal options (obj_lines bytes) ≡ refusal → IsEnd source (rule_of (Frames options)) s s' [] refusal)
      → IsWholeMesh source options s s' bytes
  whole-read bytes rest taken took dry later is short mesh ends = record {
    read = record {
      refused = λ fault e. ends (Some fault) e;
      no_memory = ends-without-memory source (rule_of (Frames options)) s s' [] (taken, took) later;
      of_taken = (taken, took, mesh);
      of_known = λ all had. ap frames_lines (sym (all-taken (source.left s) (source.left s') taken all took dry had)) ∙ mesh;
      short = omega (arith, short, ap length is, length-append bytes rest);
    };
    ended = λ e. ends None e;
  }

  -- after closed lines
  pub whole-lines : TookAll source s s' lines [] → IsWholeMesh source options s s' (text_of_lines lines)
  whole-lines all =
      let words : obj_lines (text_of_lines lines ++ []) ≡ words_of_lines lines = ap obj_lines (append-nil (text_of_lines lines)) ∙ text-is in
      whole-read (text_of_lines lines) [] (text_of_lines lines ++ []) all.took all.dry all.later refl all.short
      (ap mesh_lines words ∙ mesh-all (words_of_lines lines) none ∙ sym text-is)
      (λ refusal e.
      ends-after-lines source (rule_of (Frames options)) s s' lines [] before-handled all refusal
      (mesh-end options.depth (frames_refusal options) (frames_mesh options) lines none ∙ ap (answer_with []) (ap (frames_refusal options) (sym text-is) ∙ e))
      (of-lines (obj_lines (text_of_lines lines)) refusal e))

  module _ (line : List ℕ) (some : 0 < length line) (all : TookAll source s s' lines line) where
    -- after a last line of the mesh
    pub whole-last : is_frames_line (words_after lines line) ≡ false → IsWholeMesh source options s s' (text_of_lines lines ++ line)
    whole-last no-frames =
        let bytes = text_of_lines lines ++ line in
        whole-read bytes [] bytes all.took all.dry all.later (sym (append-nil bytes)) all.short
        (mesh-all (obj_lines bytes) (last-none lines line closed none all.plain some no-frames))
        (λ refusal e.
        ends-after-last source (rule_of (Frames options)) s s' lines [] before-handled line all [] refusal some
        (mesh-line options.depth (frames_refusal options) (frames_mesh options) lines line none no-frames)
        (mesh-end options.depth (frames_refusal options) (frames_mesh options) (lines ++ line ∷ []) (line-none lines line none no-frames)
        ∙ ap (answer_with []) (sym (last-refusal options lines line closed all.plain some) ∙ e))
        (of-lines (obj_lines bytes) refusal e))

    -- after a line `frames` without a line feed
    pub whole-frames : is_frames_line (words_after lines line) ≡ true → IsWholeMesh source options s s' (text_of_lines lines)
    whole-frames is =
        let words = last-words lines line closed all.plain (some-bytes lines line is) in
        whole-read (text_of_lines lines) line (text_of_lines lines ++ line) all.took all.dry all.later refl all.short
        (ap mesh_lines words ∙ line-mesh lines line none is ∙ sym text-is)
        (λ refusal e. by-refusal is refusal e)
      where
        by-refusal : is_frames_line (words_after lines line) ≡ true → (refusal : Option Fault) → frames_refusal options (obj_lines (text_of_lines lines)) ≡ refusal
            → IsEnd source (rule_of (Frames options)) s s' [] refusal
        by-refusal is (Some fault) e =
            ends-at-last source (rule_of (Frames options)) s s' lines [] before-handled line all fault some (at-frames line (Some fault) is e)
            (of-lines (obj_lines (text_of_lines lines)) (Some fault) e)
        by-refusal is None e =
            ends-after-last source (rule_of (Frames options)) s s' lines [] before-handled line all [] None some (at-frames line None is e)
            (frames-end options.depth (frames_refusal options) (frames_mesh options) (lines ++ line ∷ []) (line-there lines line is)) tt

-- a closed line and its line feed are passed
pub mesh-shorter : {S : Type 0} (source : Source S) (t u : S) (old new : TextInput) → ReadsText source old new t u (Ok Closed)
    → length new.pending + new.allowed < length old.pending + old.allowed
mesh-shorter source t u old new reads =
    omega (arith, ap length reads.next.0.0, length-append old.pending reads.bytes, length-append new.line (10 ∷ new.pending), reads.counted)

-- One more line of a text is read.
module _ {S : Type 0} (source : Source S) (s t u : S) (lines : List (List ℕ)) (old new : TextInput) (at : IsMeshLines source s t old lines) where
  -- the text before the line
  pub stands-behind : (r : Result NextText InputFault) → ReadsText source old new t u r → new.before ≡ text_of_lines lines
  stands-behind r reads = reads.before ∙ at.passed_is

  module _ (reads : ReadsText source old new t u (Ok Closed)) where
    took-line : TookLines source s u (lines ++ new.line ∷ []) new.pending new.allowed
    took-line =
        took-closed source s t u lines old.pending reads.bytes new.line new.pending old.allowed new.allowed at.took reads.took reads.next.0.0 reads.next.0.1 reads.counted reads.later

    pub mesh-goes-on : is_frames_line (words_after lines new.line) ≡ false → IsMeshLines source s u new (lines ++ new.line ∷ [])
    mesh-goes-on no-frames = record {
      took = took-line;
      none = line-none lines new.line at.none no-frames;
      passed_is =
          ap (λ before. before ++ (new.line ++ new.end)) (stands-behind (Ok Closed) reads)
          ∙ ap (λ end. text_of_lines lines ++ (new.line ++ end)) reads.next.1
          ∙ text-more lines new.line []
          ∙ append-nil (text_of_lines (lines ++ new.line ∷ []));
    }

    pub mesh-ends-closed : (number : ℕ) → number ≡ suc (length lines) → is_frames_line (words_after lines new.line) ≡ true → (options : FramesOptions)
        → IsBeforeFrames source options s u new.before new.pending new.allowed number
    mesh-ends-closed number same is options =
        subst (λ n. IsBeforeFrames source options s u new.before new.pending new.allowed n) (sym same)
        (subst (λ bytes. IsBeforeFrames source options s u bytes new.pending new.allowed (suc (length lines))) (sym (stands-behind (Ok Closed) reads))
        (before-frames source options s u lines at.took.closed at.none new.line new.pending new.allowed took-line reads.next.0.1 is))

  module _ (reads : ReadsText source old new t u (Ok Last)) where
    took-last : TookAll source s u lines new.line
    took-last =
        took-all source s t u lines old.pending reads.bytes new.line old.allowed new.allowed at.took reads.took reads.next.0 reads.counted reads.next.1 reads.next.5 reads.later

    pub mesh-ends-last : is_frames_line (words_after lines new.line) ≡ true → (options : FramesOptions) → IsWholeMesh source options s u new.before
    mesh-ends-last is options =
        subst (IsWholeMesh source options s u) (sym (stands-behind (Ok Last) reads))
        (whole-frames source options s u lines at.took.closed at.none new.line reads.next.2 took-last is)

    pub mesh-ends-unclosed : is_frames_line (words_after lines new.line) ≡ false → (options : FramesOptions) → IsWholeMesh source options s u (passed new)
    mesh-ends-unclosed no-frames options =
        let here : passed new ≡ text_of_lines lines ++ new.line =
        ap (λ before. before ++ (new.line ++ new.end)) (stands-behind (Ok Last) reads)
        ∙ ap (λ end. text_of_lines lines ++ (new.line ++ end)) reads.next.3
        ∙ ap (λ line. text_of_lines lines ++ line) (append-nil new.line) in
        subst (IsWholeMesh source options s u) (sym here) (whole-last source options s u lines at.took.closed at.none new.line reads.next.2 took-last no-frames)

  pub mesh-ends-input : ReadsText source old new t u (Ok End) → (options : FramesOptions) → IsWholeMesh source options s u (passed new)
  mesh-ends-input reads options =
      let all : TookAll source s u lines [] =
      took-all source s t u lines old.pending reads.bytes [] old.allowed new.allowed at.took reads.took reads.next.0 reads.counted refl reads.next.3 reads.later in
      let here : passed new ≡ text_of_lines lines =
      ap (λ before. before ++ (new.line ++ new.end)) (stands-behind (Ok End) reads)
      ∙ ap (λ line. text_of_lines lines ++ (line ++ new.end)) reads.next.1.line
      ∙ ap (λ end. text_of_lines lines ++ end) reads.next.1.end
      ∙ append-nil (text_of_lines lines) in
      subst (IsWholeMesh source options s u) (sym here) (whole-lines source options s u lines at.took.closed at.none all)

  module _ (options : FramesOptions) where
    not-refused : (pending : List ℕ) → (rule_of (Frames options)).unclosed lines pending ≡ None
    not-refused pending = unclosed-mesh options.depth (frames_refusal options) (frames_mesh options) lines pending at.none

    taken-more : (bytes : List ℕ) → Took (source.left t) (source.left u) bytes → Took (source.left s) (source.left u) ((text_of_lines lines ++ old.pending) ++ bytes)
    taken-more bytes took = Took-more (source.left s) (source.left t) (source.left u) (text_of_lines lines ++ old.pending) bytes at.took.took took

    -- a fault of the input
    pub mesh-fails : (fault : InputFault) → ReadsText source old new t u (Err fault) → IsEnd source (rule_of (Frames options)) s u [] (Some (input_fault_of fault))
    mesh-fails ReadFailed reads =
        let read : TookLines source s u lines new.pending new.allowed =
        took-pending source s t u lines old.pending reads.bytes new.pending old.allowed new.allowed at.took reads.took reads.next.0 reads.counted reads.later in
        ends-failed source (rule_of (Frames options)) s u lines [] (before-handled source options s u lines at.took.closed at.none) new.pending new.allowed read reads.next.1
        (not-refused new.pending) (rose-later (source.faults s) (source.faults t) (source.faults u) at.took.later (reads.cause refl))
    mesh-fails TooLong reads =
        let kept = reads.next.0 in
        let byte = reads.next.1 in
        let is : old.pending ++ reads.bytes ≡ new.pending ++ byte ∷ [] =
        ap (λ bytes. old.pending ++ bytes) reads.next.2 ∙ sym (append_assoc old.pending kept (byte ∷ [])) ∙ ap (λ pending. pending ++ byte ∷ []) reads.next.3.0 in
        let took = took-long source s t u lines old.pending reads.bytes new.pending byte old.allowed at.took reads.took is reads.counted.0 in
        ends-long source (rule_of (Frames options)) s u lines [] (before-handled source options s u lines at.took.closed at.none) new.pending byte took.0 took.1 reads.next.3.1
        (not-refused new.pending) (omega (arith, at.took.later, reads.later))
    mesh-fails NoMemory reads =
        ends-without-memory source (rule_of (Frames options)) s u [] ((text_of_lines lines ++ old.pending) ++ reads.bytes, taken-more reads.bytes reads.took) (omega (arith, at.took.later, reads.later))
