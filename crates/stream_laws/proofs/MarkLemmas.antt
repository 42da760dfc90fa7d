-- The refusal of `frames` for the lines of a text whose last line is not closed is that for the text.
use Rattle.std.proofs.Common.{◌≡◌, ℕ, ◌<◌, true, false, List, [], ◌∷◌, ◌++◌, length, arith, refl, ap, sym, ◌∙◌, ⊎_elim, eq-zero-or-pos}
use Rattle.far_model.specs.Command.{FramesOptions, Stencils}
use Rattle.subdiv_model.specs.ReadObj.{obj_lines, lines_fault, mesh_of_lines}
use Rattle.far_model.specs.Frames.{words_of_lines}
use Rattle.far_model.specs.Answer.{answer_of_read, frames_refusal}
use Rattle.stream_laws.specs.Handled.{has_lf, are_lines, text_of_lines}
use Rattle.stream_laws.specs.Marked.{bytes_after}
use Rattle.stream_laws.proofs.WordLemmas.{last-words, only-mark}

-- a line without words is no line of a mesh
wordless-fault : (least : ℕ) → lines_fault ([] ∷ []) least ≡ lines_fault [] least
wordless-fault least = refl

wordless-mesh : (least : ℕ) → mesh_of_lines ([] ∷ []) least ≡ mesh_of_lines [] least
wordless-mesh least = refl

wordless-refusal : (options : FramesOptions) → frames_refusal options ([] ∷ []) ≡ frames_refusal options []
wordless-refusal options =
    ap (λ fault. (answer_of_read (Stencils options.depth) fault (mesh_of_lines ([] ∷ []) options.scale)).refusal) (wordless-fault options.scale)
    ∙ ap (λ mesh. (answer_of_read (Stencils options.depth) (lines_fault [] options.scale) mesh).refusal) (wordless-mesh options.scale)

-- where the text is a byte order mark
only-mark-refusal : (options : FramesOptions) (lines : List (List ℕ)) (line : List ℕ) → 0 < length line → length (bytes_after lines line) ≡ 0
    → frames_refusal options (obj_lines (text_of_lines lines ++ line)) ≡ frames_refusal options (words_of_lines (lines ++ line ∷ []))
only-mark-refusal options [] line some empty =
    let parts = only-mark line empty in
    ap (frames_refusal options) parts.0 ∙ sym (wordless-refusal options) ∙ ap (frames_refusal options) (sym parts.1)
only-mark-refusal options (first ∷ lines) line some empty = absurd (omega arith)

-- the last line is not closed
pub last-refusal : (options : FramesOptions) (lines : List (List ℕ)) (line : List ℕ) → are_lines lines ≡ true → has_lf line ≡ false → 0 < length line
    → frames_refusal options (obj_lines (text_of_lines lines ++ line)) ≡ frames_refusal options (words_of_lines (lines ++ line ∷ []))
last-refusal options lines line closed none some =
    ⊎_elim (λ empty. only-mark-refusal options lines line some empty)
    (λ more. ap (frames_refusal options) (last-words lines line closed none more))
    (eq-zero-or-pos (length (bytes_after lines line)))
