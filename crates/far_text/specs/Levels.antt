-- The lines with the counts of levels.
use Rattle.std.specs.Prelude.{ℕ, List, [], ◌∷◌, codes}
use Rattle.std.specs.List.{flat_map, enumerate_from}
use Rattle.subdiv_model.specs.NumberText.{number_text}
use Rattle.subdiv_model.specs.Text.{line_text}
use Rattle.subdiv_model.specs.LevelText.{whole_text}
use Rattle.level_walk.specs.Counts.{Counts}

-- the number of the level, and each count after its name
abbrev pub line_words : ℕ → Counts → List (List ℕ)
line_words k counts =
    number_text k
    ∷ codes "points" ∷ number_text counts.points
    ∷ codes "edges" ∷ number_text counts.edges
    ∷ codes "faces" ∷ number_text counts.faces
    ∷ codes "euler" ∷ whole_text counts.euler
    ∷ codes "boundary" ∷ number_text counts.boundary
    ∷ codes "holes" ∷ number_text counts.holes
    ∷ codes "sharp" ∷ number_text counts.sharp
    ∷ codes "extraordinary" ∷ number_text counts.extraordinary
    ∷ []

-- the line of a level with these counts
abbrev pub counts_line : ℕ → Counts → List ℕ
counts_line k counts = line_text (codes "level") (line_words k counts)

-- the line of a numbered level
abbrev pub numbered_line : ℕ × Counts → List ℕ
numbered_line level = counts_line level.0 level.1

-- the lines of levels with these counts, numbered from the first number
abbrev pub levels_lines : ℕ → List Counts → List ℕ
levels_lines first counts = flat_map numbered_line (enumerate_from first counts)
