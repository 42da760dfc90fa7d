-- The lines of a patch.
use Rattle.std.proofs.Common.{◌≡◌, ℕ, List, [], ◌∷◌, ◌++◌, None, codes, append_assoc, ap, sym, ◌∙◌, pos}
use Rattle.std.specs.List.{flat_map}
use Rattle.subdiv_model.specs.NumberText.{number_text}
use Rattle.subdiv_model.specs.Text.{line_text, point_words}
use Rattle.subdiv_model.specs.Refined.{Point}
use Rattle.subdiv_model.specs.Patch.{place_line}
use Rattle.far_text.specs.Points.{point_of}
use Rattle.far_text.specs.Lines.{coordinate_words}
use Rattle.far_text.specs.CountLines.{count_words}
use Rattle.far_text.specs.PatchLines.{face_line}
use Rattle.far_text.proofs.LineLemmas.{ended-words}

-- the line of the face
pub patch-face-by-words : (face grid : ℕ) → count_words (codes "patch face") face ++ (count_words (codes " grid") grid ++ (10 ∷ [])) ≡ face_line face grid
patch-face-by-words face grid =
    ap (λ rest. codes "patch" ++ rest) (ended-words (codes "face" ∷ number_text face ∷ codes "grid" ∷ number_text grid ∷ []))

-- the line of a place
five-texts : (a b c d e : List ℕ) → ((a ++ b) ++ c) ++ (d ++ e) ≡ a ++ ((b ++ (c ++ d)) ++ e)
five-texts a b c d e =
    append_assoc (a ++ b) c (d ++ e)
    ∙ append_assoc a b (c ++ (d ++ e))
    ∙ ap (λ rest. a ++ rest) (sym (append_assoc b (c ++ d) e ∙ ap (λ rest. b ++ rest) (append_assoc c d e)))

pub place-by-words : (place : ℕ × ℕ) (p : Point) →
    (count_words (codes "s") place.0 ++ (32 ∷ number_text place.1)) ++ line_text [] (coordinate_words None p) ≡ place_line (place, p)
place-by-words place p =
    five-texts (codes "s") (32 ∷ number_text place.0) (32 ∷ number_text place.1) (flat_map (λ word. 32 ∷ word) (point_words p)) (10 ∷ [])

-- no place
abbrev pub no_place : (ℕ × ℕ) × Point
no_place = ((0, 0), point_of 0 (record { value = record { x = pos 0; y = pos 0; z = pos 0 }; den = 0 }))
