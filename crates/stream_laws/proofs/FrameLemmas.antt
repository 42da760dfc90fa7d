-- The lines of a mesh, the line `frames` and the frame lines, one line more.
use Rattle.std.proofs.Common.{◌≡◌, ℕ, suc, Bool, true, false, not, ◌||◌, List, [], ◌∷◌, ◌++◌, length, drop, refl, ap, sym, ◌∙◌, true≢false}
use Rattle.std.proofs.lemmas.Bool.{or_parts, or_from, or_left, or_right}
use Rattle.std.proofs.lemmas.List.Folds.{list_any-append}
use Rattle.std.proofs.lemmas.List.Sums.{take_while-cons, fold-append}
use Rattle.subdiv_model.specs.ObjLine.{line_words}
use Rattle.subdiv_model.specs.ObjMesh.{ObjMesh}
use Rattle.far_model.specs.Frames.{words_after, words_of_lines, is_frames_line, has_frames, mesh_lines, frame_lines, frame_after, frame_at}
use Rattle.stream_laws.proofs.WordLemmas.{words-more}

abbrev Words : Type 0
Words = List (List ℕ)

-- the first line is no line `frames`, or is one
mesh-no : (words : Words) (lines : List Words) → is_frames_line words ≡ false → mesh_lines (words ∷ lines) ≡ words ∷ mesh_lines lines
mesh-no words lines no-frames = take_while-cons (λ w. not (is_frames_line w)) words lines ∙ rw no-frames refl

mesh-yes : (words : Words) (lines : List Words) → is_frames_line words ≡ true → mesh_lines (words ∷ lines) ≡ []
mesh-yes words lines is = take_while-cons (λ w. not (is_frames_line w)) words lines ∙ rw is refl

frame-no : (words : Words) (lines : List Words) → is_frames_line words ≡ false → frame_lines (words ∷ lines) ≡ frame_lines lines
frame-no words lines no-frames = ap (λ before. drop (suc (length before)) (words ∷ lines)) (mesh-no words lines no-frames)

frame-yes : (words : Words) (lines : List Words) → is_frames_line words ≡ true → frame_lines (words ∷ lines) ≡ lines
frame-yes words lines is = ap (λ before. drop (suc (length before)) (words ∷ lines)) (mesh-yes words lines is)

-- without a line `frames` all lines are lines of the mesh
pub mesh-all : (lines : List Words) → has_frames lines ≡ false → mesh_lines lines ≡ lines
mesh-all [] none = refl
mesh-all (words ∷ lines) none =
    let parts = or_parts (is_frames_line words) (has_frames lines) none in
    mesh-no words lines parts.0 ∙ ap (λ more. words ∷ more) (mesh-all lines parts.1)

-- one more line has no `frames` where neither it nor those before it have
pub frames-none : (lines : List Words) (words : Words) → has_frames lines ≡ false → is_frames_line words ≡ false → has_frames (lines ++ words ∷ []) ≡ false
frames-none lines words none no-frames =
    list_any-append is_frames_line lines (words ∷ [])
    ∙ or_from (has_frames lines) (is_frames_line words || false) none (or_from (is_frames_line words) false no-frames refl)

-- at the first line `frames` the lines of the mesh are those before it, and the frame lines those after it
pub frames-there : (lines : List Words) (words : Words) (more : List Words) → is_frames_line words ≡ true → has_frames (lines ++ words ∷ more) ≡ true
frames-there lines words more is =
    list_any-append is_frames_line lines (words ∷ more)
    ∙ or_right (has_frames lines) (has_frames (words ∷ more)) (or_left (is_frames_line words) (has_frames more) is)

pub mesh-before : (lines : List Words) (words : Words) (more : List Words) → has_frames lines ≡ false → is_frames_line words ≡ true
    → mesh_lines (lines ++ words ∷ more) ≡ lines
mesh-before [] words more none is = mesh-yes words more is
mesh-before (first ∷ lines) words more none is =
    let parts = or_parts (is_frames_line first) (has_frames lines) none in
    mesh-no first (lines ++ words ∷ more) parts.0 ∙ ap (λ rest. first ∷ rest) (mesh-before lines words more parts.1 is)

pub frames-after : (lines : List Words) (words : Words) (more : List Words) → has_frames lines ≡ false → is_frames_line words ≡ true
    → frame_lines (lines ++ words ∷ more) ≡ more
frames-after [] words more none is = frame-yes words more is
frames-after (first ∷ lines) words more none is =
    let parts = or_parts (is_frames_line first) (has_frames lines) none in
    frame-no first (lines ++ words ∷ more) parts.0 ∙ frames-after lines words more parts.1 is

-- after a line `frames` there is one, the lines of the mesh stay, and more lines are frame lines
pub frames-stay : (lines more : List Words) → has_frames lines ≡ true → has_frames (lines ++ more) ≡ true
frames-stay lines more some = list_any-append is_frames_line lines more ∙ or_left (has_frames lines) (has_frames more) some

pub mesh-stays : (lines more : List Words) → has_frames lines ≡ true → mesh_lines (lines ++ more) ≡ mesh_lines lines
mesh-stays [] more some = absurd (true≢false (sym some))
mesh-stays (words ∷ lines) more some = here (is_frames_line words) refl (mesh-stays lines more)
  where
    here : (test : Bool) → is_frames_line words ≡ test → (has_frames lines ≡ true → mesh_lines (lines ++ more) ≡ mesh_lines lines)
        → mesh_lines (words ∷ (lines ++ more)) ≡ mesh_lines (words ∷ lines)
    here true e rest = mesh-yes words (lines ++ more) e ∙ sym (mesh-yes words lines e)
    here false e rest =
        let later : has_frames lines ≡ true = ap (λ test. test || has_frames lines) (sym e) ∙ some in
        mesh-no words (lines ++ more) e ∙ ap (λ before. words ∷ before) (rest later) ∙ sym (mesh-no words lines e)

pub frames-more : (lines more : List Words) → has_frames lines ≡ true → frame_lines (lines ++ more) ≡ frame_lines lines ++ more
frames-more [] more some = absurd (true≢false (sym some))
frames-more (words ∷ lines) more some = here (is_frames_line words) refl (frames-more lines more)
  where
    here : (test : Bool) → is_frames_line words ≡ test → (has_frames lines ≡ true → frame_lines (lines ++ more) ≡ frame_lines lines ++ more)
        → frame_lines (words ∷ (lines ++ more)) ≡ frame_lines (words ∷ lines) ++ more
    here true e rest = frame-yes words (lines ++ more) e ∙ sym (ap (λ after. after ++ more) (frame-yes words lines e))
    here false e rest =
        let later : has_frames lines ≡ true = ap (λ test. test || has_frames lines) (sym e) ∙ some in
        frame-no words (lines ++ more) e ∙ rest later ∙ sym (ap (λ after. after ++ more) (frame-no words lines e))

-- one line more changes a frame
pub frame-more : (mesh : ObjMesh) (lines : List Words) (words : Words)
    → frame_at mesh (lines ++ words ∷ []) ≡ frame_after mesh.common (frame_at mesh lines) words
frame-more mesh lines words = fold-append (frame_after mesh.common) (record { controls = mesh.points; moved = [] }) lines (words ∷ [])

-- a line after a line `frames` loses no byte order mark
pub words-later : (before : List (List ℕ)) (line : List ℕ) → has_frames (words_of_lines before) ≡ true → words_after before line ≡ line_words line
words-later [] line some = absurd (true≢false (sym some))
words-later (first ∷ before) line some = refl

-- one more line of bytes: before the line `frames`, at it and after it
pub line-none : (before : List (List ℕ)) (line : List ℕ) → has_frames (words_of_lines before) ≡ false → is_frames_line (words_after before line) ≡ false
    → has_frames (words_of_lines (before ++ line ∷ [])) ≡ false
line-none before line none no-frames = ap has_frames (words-more before line) ∙ frames-none (words_of_lines before) (words_after before line) none no-frames

pub line-there : (before : List (List ℕ)) (line : List ℕ) → is_frames_line (words_after before line) ≡ true
    → has_frames (words_of_lines (before ++ line ∷ [])) ≡ true
line-there before line is = ap has_frames (words-more before line) ∙ frames-there (words_of_lines before) (words_after before line) [] is

pub line-mesh : (before : List (List ℕ)) (line : List ℕ) → has_frames (words_of_lines before) ≡ false → is_frames_line (words_after before line) ≡ true
    → mesh_lines (words_of_lines (before ++ line ∷ [])) ≡ words_of_lines before
line-mesh before line none is = ap mesh_lines (words-more before line) ∙ mesh-before (words_of_lines before) (words_after before line) [] none is

pub line-frames : (before : List (List ℕ)) (line : List ℕ) → has_frames (words_of_lines before) ≡ false → is_frames_line (words_after before line) ≡ true
    → frame_lines (words_of_lines (before ++ line ∷ [])) ≡ []
line-frames before line none is = ap frame_lines (words-more before line) ∙ frames-after (words_of_lines before) (words_after before line) [] none is

pub line-stays : (before : List (List ℕ)) (line : List ℕ) → has_frames (words_of_lines before) ≡ true
    → has_frames (words_of_lines (before ++ line ∷ [])) ≡ true
line-stays before line some = ap has_frames (words-more before line) ∙ frames-stay (words_of_lines before) (words_after before line ∷ []) some

pub line-mesh_stays : (before : List (List ℕ)) (line : List ℕ) → has_frames (words_of_lines before) ≡ true
    → mesh_lines (words_of_lines (before ++ line ∷ [])) ≡ mesh_lines (words_of_lines before)
line-mesh_stays before line some = ap mesh_lines (words-more before line) ∙ mesh-stays (words_of_lines before) (words_after before line ∷ []) some

pub line-frame : (before : List (List ℕ)) (line : List ℕ) → has_frames (words_of_lines before) ≡ true
    → frame_lines (words_of_lines (before ++ line ∷ [])) ≡ frame_lines (words_of_lines before) ++ line_words line ∷ []
line-frame before line some =
    ap frame_lines (words-more before line)
    ∙ frames-more (words_of_lines before) (words_after before line ∷ []) some
    ∙ ap (λ words. frame_lines (words_of_lines before) ++ words ∷ []) (words-later before line some)

-- the frame of the frame lines, one more
pub line-frame_at : (mesh : ObjMesh) (before : List (List ℕ)) (line : List ℕ) → has_frames (words_of_lines before) ≡ true
    → frame_at mesh (frame_lines (words_of_lines (before ++ line ∷ [])))
    ≡ frame_after mesh.common (frame_at mesh (frame_lines (words_of_lines before))) (line_words line)
line-frame_at mesh before line some =
    ap (frame_at mesh) (line-frame before line some) ∙ frame-more mesh (frame_lines (words_of_lines before)) (line_words line)
