-- The answers to lines under `frames`: none before the line `frames`, then one to each line, and lines that are too long.
use Rattle.std.proofs.Common.{◌≡◌, ℕ, suc, ◌<◌, ◌≤◌, true, false, nat_lt, List, [], ◌∷◌, ◌++◌, length, map, Option, None, Some, option_map, arith, refl, ap, sym, ◌∙◌, append_assoc, if◌then◌else◌, lt-ltb, le-ltb}
use Rattle.std.specs.Option.{option_or}
use Rattle.std.proofs.lemmas.Bool.{or_parts, and_right}
use Rattle.std.proofs.lemmas.List.{length-append}
use Rattle.std.proofs.lemmas.List.Folds.{list_any-append}
use Rattle.subdiv_model.specs.Fault.{Fault, Obj, Overflow, Positions, ValueOverflow}
use Rattle.subdiv_model.specs.ObjFault.{LongLine}
use Rattle.subdiv_model.specs.ObjLine.{line_words}
use Rattle.subdiv_model.specs.ObjMesh.{ObjMesh}
use Rattle.far_model.specs.Refusal.{answer_unless, refused, then_answer, after_text}
use Rattle.far_model.specs.Stream.{answer_from}
use Rattle.far_model.specs.Frames.{words_after, words_of_lines, is_frames_line, has_frames, mesh_lines, frame_lines, line_limit, frame_cause, words_cause, frame_fault, overflows, frame_answer, frame_text, frame_at, is_go_line, frames_rule}
use Rattle.stream_laws.specs.Handled.{are_lines, IsHandled, IsRefusedStart}
use Rattle.stream_laws.proofs.WordLemmas.{words-next}
use Rattle.stream_laws.proofs.HandledLemmas.{nothing-more, only-text}

abbrev Lines : Type 0
Lines = List (List ℕ)

abbrev Words : Type 0
Words = List (List (List ℕ))

-- a line that is too long
abbrev long-line : ℕ → Fault
long-line number = Obj (record { line = number; cause = LongLine })

-- an answer without text is only the refusal, if there is one
unless-nothing : (fault : Option Fault) → answer_unless fault [] ≡ record { text = []; refusal = fault }
unless-nothing None = refl
unless-nothing (Some fault) = refl

-- the cause of a line of too many bytes
long-cause : (count common : ℕ) (line : List ℕ) → 65535 < length line → frame_cause count common line ≡ Some LongLine
long-cause count common line long = ap (λ test. if test then Some LongLine else words_cause count common (line_words line)) (lt-ltb 65535 (length line) long)

-- a frame line of too many bytes is refused
long-answer : (depth : ℕ) (mesh : ObjMesh) (before : Words) (number : ℕ) (line : List ℕ) → 65535 < length line
    → frame_answer depth mesh before number line ≡ refused (long-line number)
long-answer depth mesh before number line long =
    let fault : frame_fault depth mesh number line ≡ Some (long-line number) =
    ap (λ cause. option_or (option_map (λ found. Obj (record { line = number; cause = found })) cause)
    (if overflows depth mesh (line_words line) then Some (Overflow Positions depth ValueOverflow) else None))
    (long-cause (length mesh.points) mesh.common line long) in
    ap (λ found. answer_unless found (if is_go_line (line_words line) then frame_text depth mesh (frame_at mesh before) else [])) fault

still-long : (start others : List ℕ) → 65535 < length start → 65535 < length (start ++ others)
still-long start others long = omega (arith, length-append start others)

module _ (depth : ℕ) (refusal : Words → Option Fault) (mesh : Words → ObjMesh) where
  -- before the line `frames` a line adds nothing
  pub mesh-line : (before : Lines) (line : List ℕ) → has_frames (words_of_lines before) ≡ false → is_frames_line (words_after before line) ≡ false
      → (frames_rule depth refusal mesh).line before line ≡ record { text = []; refusal = None }
  mesh-line before line none no-frames = rw none rw no-frames refl

  -- at the line `frames` the mesh is judged
  pub frames-line : (before : Lines) (line : List ℕ) → has_frames (words_of_lines before) ≡ false → is_frames_line (words_after before line) ≡ true
      → (frames_rule depth refusal mesh).line before line ≡ answer_unless (refusal (words_of_lines before)) []
  frames-line before line none is = rw none rw is refl

  -- after a line `frames` a line is answered
  pub frame-line : (before : Lines) (line : List ℕ) → has_frames (words_of_lines before) ≡ true
      → (frames_rule depth refusal mesh).line before line
      ≡ frame_answer depth (mesh (mesh_lines (words_of_lines before))) (frame_lines (words_of_lines before)) (suc (length before)) line
  frame-line before line some = rw some refl

  -- a line that is not closed is refused only after the line `frames`, and only where it is too long
  pub unclosed-mesh : (before : Lines) (bytes : List ℕ) → has_frames (words_of_lines before) ≡ false
      → (frames_rule depth refusal mesh).unclosed before bytes ≡ None
  unclosed-mesh before bytes none = rw none refl

  pub unclosed-short : (before : Lines) (bytes : List ℕ) → length bytes ≤ 65535 → (frames_rule depth refusal mesh).unclosed before bytes ≡ None
  unclosed-short before bytes short =
      ap (λ test. if test then Some (long-line (suc (length before))) else None)
      (and_right (has_frames (words_of_lines before)) (nat_lt line_limit (length bytes)) (le-ltb 65535 (length bytes) short))

  -- where the input ends the mesh is judged, unless a line `frames` was there
  pub mesh-end : (before : Lines) → has_frames (words_of_lines before) ≡ false
      → (frames_rule depth refusal mesh).end before ≡ record { text = []; refusal = refusal (words_of_lines before) }
  mesh-end before none = rw none (unless-nothing (refusal (words_of_lines before)))

  pub frames-end : (before : Lines) → has_frames (words_of_lines before) ≡ true
      → (frames_rule depth refusal mesh).end before ≡ record { text = []; refusal = None }
  frames-end before some = rw some refl

  -- pending bytes of a frame line are refused where they are too many, whatever follows them
  pub long-refused : (before : Lines) (start : List ℕ) → has_frames (words_of_lines before) ≡ true → 65535 < length start
      → IsRefusedStart (frames_rule depth refusal mesh) before start (Obj (record { line = suc (length before); cause = LongLine }))
  long-refused before start some long = record {
    line = λ others. frame-line before (start ++ others) some
        ∙ long-answer depth (mesh (mesh_lines (words_of_lines before))) (frame_lines (words_of_lines before)) (suc (length before)) (start ++ others) (still-long start others long);
    unclosed = λ others. rw some rw (lt-ltb 65535 (length (start ++ others)) (still-long start others long)) refl;
  }

  -- lines without a line `frames` add nothing
  no-frames-from : (before lines : Lines) → has_frames (words_of_lines (before ++ lines)) ≡ false
      → answer_from (frames_rule depth refusal mesh) nothing-more before lines ≡ only-text []
  no-frames-from before [] none = refl
  no-frames-from before (line ∷ lines) none =
      let rule = frames_rule depth refusal mesh in
      let words = words_of_lines before in
      let more = map line_words lines in
      let split : has_frames (words ++ words_after before line ∷ more) ≡ false = ap has_frames (sym (words-next before line lines)) ∙ none in
      let parts = or_parts (has_frames words) (has_frames (words_after before line ∷ more)) (sym (list_any-append is_frames_line words (words_after before line ∷ more)) ∙ split) in
      let first = mesh-line before line parts.0 (or_parts (is_frames_line (words_after before line)) (has_frames more) parts.1).0 in
      let rest = no-frames-from (before ++ line ∷ []) lines (ap (λ all. has_frames (words_of_lines all)) (append_assoc before (line ∷ []) lines) ∙ none) in
      ap (λ answer. then_answer answer (answer_from rule nothing-more (before ++ line ∷ []) lines)) first ∙ ap (after_text []) rest

  pub mesh-handled : (lines : Lines) → are_lines lines ≡ true → has_frames (words_of_lines lines) ≡ false → IsHandled (frames_rule depth refusal mesh) lines []
  mesh-handled lines closed none = record { closed = closed; answered = no-frames-from [] lines none }
