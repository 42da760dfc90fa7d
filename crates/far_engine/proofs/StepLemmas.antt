-- The steps of `frames`, for the bytes that were taken and for all bytes.
use Rattle.std.proofs.Common.{◌≡◌, ℕ, ◌+◌, ◌<◌, ◌≤◌, true, false, List, [], ◌∷◌, ◌++◌, length, map, Option, Some, None, arith, ap, sym, subst, ◌∙◌, append_assoc, append-nil}
use Rattle.std.proofs.lemmas.List.Sums.{sum_by-append}
use Rattle.far_io.specs.Bytes.{Took}
use Rattle.far_io.specs.declared.source.Source.{Ghosts as Source}
use Rattle.subdiv_model.specs.ObjLine.{line_words, lines_of}
use Rattle.subdiv_model.specs.ObjMesh.{ObjMesh}
use Rattle.subdiv_model.specs.ReadObj.{obj_lines}
use Rattle.subdiv_model.specs.Fault.{Fault}
use Rattle.far_model.specs.Command.{FramesOptions, Frames, Streams}
use Rattle.far_model.specs.Frames.{frame_lines, mesh_lines, words_of_lines}
use Rattle.far_model.specs.Answer.{frames_lines, frames_mesh}
use Rattle.stream_laws.specs.Handled.{has_lf, are_lines, text_of_lines}
use Rattle.stream_laws.specs.Laws.{have_frames, mesh_words, frame_words}
use Rattle.stream_laws.proofs.WordLemmas.{first-words, last-words}
use Rattle.stream_laws.proofs.FrameLemmas.{mesh-stays, frames-more, line-mesh_stays, line-frame}
use Rattle.table_answers.specs.FrameStepCounts.{line_steps, start_least, frames_limit}
use Rattle.far_engine.specs.StepCounts.{IsWithinSteps, TakesSteps, stream_limit}
use Rattle.far_engine.proofs.StreamLemmas.{all-known}

-- the bytes of an input have these lines of the mesh, and their frame lines begin with these
pub record HasFrameLines (bytes : List ℕ) (mesh frames : List (List (List ℕ))) : Type 0 where
  pub mesh_is : frames_lines bytes ≡ mesh
  pub others : List (List (List ℕ))
  pub frames_are : frame_lines (obj_lines bytes) ≡ frames ++ others

-- bytes that begin with lines, one of which is a line `frames`
pub has-lines : (lines : List (List ℕ)) (more : List ℕ) → are_lines lines ≡ true → have_frames lines ≡ true
    → HasFrameLines (text_of_lines lines ++ more) (mesh_words lines) (frame_words lines)
has-lines [] more closed some = absurd (cc)
has-lines (line ∷ lines) more closed some =
    let others = map line_words (lines_of more) in
    let words = first-words line lines more closed in
    record {
      mesh_is = ap mesh_lines words ∙ mesh-stays (words_of_lines (line ∷ lines)) others some;
      others = others;
      frames_are = ap frame_lines words ∙ frames-more (words_of_lines (line ∷ lines)) others some;
    }

-- bytes that end with a frame line without a line feed
pub has-last : (lines : List (List ℕ)) (line : List ℕ) → are_lines lines ≡ true → have_frames lines ≡ true → has_lf line ≡ false → 0 < length line
    → HasFrameLines (text_of_lines lines ++ line) (mesh_words lines) (frame_words lines ++ line_words line ∷ [])
has-last [] line closed some plain long = absurd (cc)
has-last (first ∷ lines) line closed some plain long =
    let words = last-words (first ∷ lines) line closed plain long in
    record {
      mesh_is = ap mesh_lines words ∙ line-mesh_stays (first ∷ lines) line some;
      others = [];
      frames_are = ap frame_lines words ∙ line-frame (first ∷ lines) line some ∙ sym (append-nil (frame_words (first ∷ lines) ++ line_words line ∷ []));
    }

-- more frame lines take more steps
limit-grows : (depth : ℕ) (mesh : ObjMesh) (frames others : List (List (List ℕ))) → frames_limit depth mesh frames ≤ frames_limit depth mesh (frames ++ others)
limit-grows depth mesh frames others = omega (arith, sum_by-append (line_steps depth mesh) frames others)

module _ {S : Type 0} (source : Source S) (options : FramesOptions) (s s' : S) (mesh frames : List (List (List ℕ))) (outcome : Option Fault) (old new : ℕ) (later : old ≤ new)
    (least : outcome ≡ None → old + start_least options.depth (frames_mesh options mesh) ≤ new) (most : new ≤ old + frames_limit options.depth (frames_mesh options mesh) frames) where
  within : (bytes : List ℕ) → HasFrameLines bytes mesh frames → IsWithinSteps (Streams (Frames options)) bytes outcome old new
  within bytes has =
      let limit : stream_limit (Frames options) bytes ≡ frames_limit options.depth (frames_mesh options mesh) (frames ++ has.others) =
      ap (λ words. frames_limit options.depth (frames_mesh options words) (frame_lines (obj_lines bytes))) has.mesh_is
      ∙ ap (frames_limit options.depth (frames_mesh options mesh)) has.frames_are in
      let grows = limit-grows options.depth (frames_mesh options mesh) frames has.others in
      record {
        most = omega (arith, most, limit, grows);
        least = λ e. subst (λ words. old + start_least options.depth (frames_mesh options words) ≤ new) (sym has.mesh_is) (least e);
      }

  -- The steps are within the bounds, for the bytes that were taken and for all bytes.
  pub takes-steps : (taken : List ℕ) → Took (source.left s) (source.left s') taken → HasFrameLines taken mesh frames
      → ((all : List ℕ) → source.left s ≡ Some all → HasFrameLines all mesh frames) → TakesSteps source (Streams (Frames options)) s s' outcome old new
  takes-steps taken took has known = record {
    later = later;
    of_taken = (taken, took, within taken has);
    of_known = λ all had. within all (known all had);
  }

-- the bytes that were taken begin with lines, one of which is a line `frames`
pub takes-lines : {S : Type 0} (source : Source S) (options : FramesOptions) (s s' : S) (lines : List (List ℕ)) (more : List ℕ) → are_lines lines ≡ true → have_frames lines ≡ true
    → Took (source.left s) (source.left s') (text_of_lines lines ++ more) → (outcome : Option Fault) (old new : ℕ) → old ≤ new
    → (outcome ≡ None → old + start_least options.depth (frames_mesh options (mesh_words lines)) ≤ new)
    → new ≤ old + frames_limit options.depth (frames_mesh options (mesh_words lines)) (frame_words lines) → TakesSteps source (Streams (Frames options)) s s' outcome old new
takes-lines source options s s' lines more closed some took outcome old new later least most =
    let taken = text_of_lines lines ++ more in
    takes-steps source options s s' (mesh_words lines) (frame_words lines) outcome old new later least most taken took (has-lines lines more closed some)
    (λ all had.
    let known = all-known (source.left s) (source.left s') taken all took had in
    subst (λ bytes. HasFrameLines bytes (mesh_words lines) (frame_words lines)) (sym (known.1 ∙ append_assoc (text_of_lines lines) more known.0))
    (has-lines lines (more ++ known.0) closed some))

-- no step was taken before the mesh was refined
pub takes-none : {S : Type 0} (source : Source S) (options : FramesOptions) (s s' : S) (outcome : Option Fault) (old : ℕ) (taken : List ℕ)
    → Took (source.left s) (source.left s') taken → (outcome ≡ None → ⊥) → TakesSteps source (Streams (Frames options)) s s' outcome old old
takes-none source options s s' outcome old taken took failed =
    let within : (bytes : List ℕ) → IsWithinSteps (Streams (Frames options)) bytes outcome old old =
    λ bytes. record { most = omega arith; least = λ e. absurd (failed e) } in
    record { later = omega arith; of_taken = (taken, took, within taken); of_known = λ bytes e. within bytes }
