-- A line is its first part, its words and its end.
use Rattle.std.proofs.Common.{◌≡◌, ℕ, ◌+◌, List, [], ◌∷◌, ◌++◌, codes, append_assoc, refl, ap, sym, ◌∙◌, zip, Option, None}
use Rattle.std.specs.List.{flat_map}
use Rattle.std.proofs.lemmas.List.Folds.{flat_map-map}
use Rattle.subdiv_model.specs.Polygons.{Polygon}
use Rattle.subdiv_model.specs.Sharpness.{Sharpness}
use Rattle.subdiv_model.specs.Value.{Value}
use Rattle.subdiv_model.specs.Refined.{Point}
use Rattle.subdiv_model.specs.NumberText.{number_text, value_text_with}
use Rattle.subdiv_model.specs.Text.{line_text, texture_line, face_line, corner_text, textured_face_line, hole_line, sharpness_text}
use Rattle.far_text.specs.Frames.{frame_line, changed_line}
use Rattle.far_text.specs.Lines.{coordinate_words, corner_word, textured_word, crease_tag, corner_tag}

-- words, each after one space, and the end of the line
abbrev ended : List (List ℕ) → List ℕ
ended [] = 10 ∷ []
ended (word ∷ words) = (32 ∷ word) ++ ended words

pub ended-words : (words : List (List ℕ)) → ended words ≡ flat_map (λ word. 32 ∷ word) words ++ (10 ∷ [])
ended-words [] = refl
ended-words (word ∷ words) =
    ap (λ rest. (32 ∷ word) ++ rest) (ended-words words) ∙ sym (append_assoc (32 ∷ word) (flat_map (λ w. 32 ∷ w) words) (10 ∷ []))

pub point-by-words : (keyword : List ℕ) (decimals : Option ℕ) (p : Point) →
    keyword ++ ((32 ∷ value_text_with decimals p.0) ++ ((32 ∷ value_text_with decimals p.1) ++ ((32 ∷ value_text_with decimals p.2) ++ (10 ∷ []))))
    ≡ line_text keyword (coordinate_words decimals p)
point-by-words keyword decimals p = ap (λ rest. keyword ++ rest) (ended-words (coordinate_words decimals p))

pub texture-by-words : (decimals : Option ℕ) (p : Value × Value) →
    codes "vt" ++ ((32 ∷ value_text_with decimals p.0) ++ ((32 ∷ value_text_with decimals p.1) ++ (10 ∷ []))) ≡ texture_line decimals p
texture-by-words decimals p = ap (λ rest. codes "vt" ++ rest) (ended-words (value_text_with decimals p.0 ∷ value_text_with decimals p.1 ∷ []))

pub face-by-words : (corners : List ℕ) → codes "f" ++ (flat_map corner_word corners ++ (10 ∷ [])) ≡ face_line corners
face-by-words corners =
    ap (λ words. codes "f" ++ (words ++ (10 ∷ []))) (sym (flat_map-map (λ word. 32 ∷ word) (λ corner. number_text (corner + 1)) corners))

pub textured-face-by-words : (face : Polygon × Polygon) → codes "f" ++ (flat_map textured_word (zip face.0 face.1) ++ (10 ∷ [])) ≡ textured_face_line face
textured-face-by-words face =
    ap (λ words. codes "f" ++ (words ++ (10 ∷ []))) (sym (flat_map-map (λ word. 32 ∷ word) corner_text (zip face.0 face.1)))

pub crease-by-words : (ends : ℕ × ℕ) (s : Sharpness) →
    codes "t crease 2/1/0" ++ ((32 ∷ number_text ends.0) ++ ((32 ∷ number_text ends.1) ++ ((32 ∷ sharpness_text s) ++ (10 ∷ [])))) ≡ crease_tag ends s
crease-by-words ends s =
    ap (λ rest. codes "t crease 2/1/0" ++ rest) (ended-words (number_text ends.0 ∷ number_text ends.1 ∷ sharpness_text s ∷ []))

pub corner-by-words : (v : ℕ) (s : Sharpness) →
    codes "t corner 1/1/0" ++ ((32 ∷ number_text v) ++ ((32 ∷ sharpness_text s) ++ (10 ∷ []))) ≡ corner_tag v s
corner-by-words v s = ap (λ rest. codes "t corner 1/1/0" ++ rest) (ended-words (number_text v ∷ sharpness_text s ∷ []))

pub hole-by-words : (f : ℕ) → codes "t hole 1/0/0" ++ ((32 ∷ number_text f) ++ (10 ∷ [])) ≡ hole_line f
hole-by-words f = ap (λ rest. codes "t hole 1/0/0" ++ rest) (ended-words (number_text f ∷ []))

pub frame-by-words : (count : ℕ) → (codes "frame" ++ (32 ∷ number_text count)) ++ (10 ∷ []) ≡ frame_line count
frame-by-words count = append_assoc (codes "frame") (32 ∷ number_text count) (10 ∷ []) ∙ ap (λ rest. codes "frame" ++ rest) (ended-words (number_text count ∷ []))

pub changed-by-words : (number : ℕ) (p : Point) →
    (codes "p" ++ (32 ∷ number_text number)) ++ line_text [] (coordinate_words None p) ≡ changed_line number p
changed-by-words number p =
    append_assoc (codes "p") (32 ∷ number_text number) (line_text [] (coordinate_words None p))
    ∙ ap (λ rest. codes "p" ++ rest) (sym (append_assoc (32 ∷ number_text number) (flat_map (λ word. 32 ∷ word) (coordinate_words None p)) (10 ∷ [])))
