-- The lines of counts and of a summary, piece by piece.
use Rattle.std.specs.Prelude.{ℕ, List, [], ◌∷◌, ◌++◌, codes}
use Rattle.subdiv_model.specs.NumberText.{number_text}
use Rattle.level_walk.specs.Counts.{Counts}

-- a name, a space and a count
abbrev pub count_words : List ℕ → ℕ → List ℕ
count_words name count = name ++ (32 ∷ number_text count)

-- the numbers of edges, faces and points of each kind, and the end of the line
abbrev pub kind_words : Counts → List ℕ
kind_words counts =
    count_words (codes " boundary") counts.boundary
    ++ (count_words (codes " holes") counts.holes
    ++ (count_words (codes " sharp") counts.sharp
    ++ (count_words (codes " extraordinary") counts.extraordinary ++ (10 ∷ []))))

-- the greatest denominator, and the end of the line
abbrev pub greatest_words : ℕ → List ℕ
greatest_words greatest = codes " den" ++ ((32 ∷ number_text greatest) ++ (10 ∷ []))
