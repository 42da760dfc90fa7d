-- A line is its first part, its words and its end.
use Rattle.std.proofs.Common.{◌≡◌, ℕ, [], ◌∷◌, ◌++◌, codes, ap}
use Rattle.subdiv_model.specs.NumberText.{number_text}
use Rattle.subdiv_model.specs.LevelText.{whole_text}
use Rattle.level_walk.specs.Counts.{Counts}
use Rattle.far_text.specs.declared.summary.Summary.{Summary}
use Rattle.far_text.specs.CountLines.{count_words, kind_words, greatest_words}
use Rattle.far_text.specs.Stored.{agreement_line}
use Rattle.far_text.specs.Levels.{line_words, counts_line}
use Rattle.far_text.specs.Summary.{sheet_line, depth_line}
use Rattle.far_text.proofs.LineLemmas.{ended-words}

pub agreement-by-words : (rows : ℕ) → (codes "table agrees" ++ (32 ∷ number_text rows)) ++ (10 ∷ []) ≡ agreement_line rows
agreement-by-words rows = ap (λ rest. codes "table" ++ rest) (ended-words (codes "agrees" ∷ number_text rows ∷ []))

pub sheet-by-words : (points faces : ℕ) →
    (codes "gen points" ++ (32 ∷ number_text points)) ++ ((codes " faces" ++ (32 ∷ number_text faces)) ++ (10 ∷ [])) ≡ sheet_line points faces
sheet-by-words points faces =
    ap (λ rest. codes "gen" ++ rest) (ended-words (codes "points" ∷ number_text points ∷ codes "faces" ∷ number_text faces ∷ []))

pub depth-by-words : (summary : Summary) →
    (codes "level" ++ (32 ∷ number_text summary.depth)) ++ ((codes " points" ++ (32 ∷ number_text summary.level_points)) ++ ((codes " faces" ++ (32 ∷ number_text summary.level_faces)) ++ ((codes " entries" ++ (32 ∷ number_text summary.entries)) ++ greatest_words summary.greatest))) ≡ depth_line summary
depth-by-words summary =
    ap (λ rest. codes "level" ++ rest)
    (ended-words
    (number_text summary.depth ∷ codes "points" ∷ number_text summary.level_points ∷ codes "faces" ∷ number_text summary.level_faces ∷ codes "entries" ∷ number_text summary.entries ∷ codes "den" ∷ number_text summary.greatest ∷ []))

-- the line of a level's counts
pub level-by-words : (k : ℕ) (counts : Counts) →
    count_words (codes "level") k
    ++ (count_words (codes " points") counts.points
    ++ (count_words (codes " edges") counts.edges
    ++ (count_words (codes " faces") counts.faces
    ++ ((codes " euler " ++ whole_text counts.euler) ++ kind_words counts))))
    ≡ counts_line k counts
level-by-words k counts = ap (λ rest. codes "level" ++ rest) (ended-words (line_words k counts))
