-- The lines of a map.
use Rattle.std.proofs.Common.{◌≡◌, ℕ, [], ◌∷◌, ◌++◌, codes, append_assoc, ap, sym, ◌∙◌}
use Rattle.subdiv_model.specs.Fractions.{lowest}
use Rattle.subdiv_model.specs.NumberText.{number_text, ratio_text}
use Rattle.subdiv_model.specs.Text.{line_text}
use Rattle.subdiv_model.specs.Leaf.{Location, leaf_line}
use Rattle.far_text.specs.CountLines.{count_words}
use Rattle.far_text.specs.MapLines.{leaf_words, position_words}
use Rattle.far_text.proofs.LineLemmas.{ended-words}

-- no place
abbrev pub no_leaf : (ℕ × ℕ) × Location
no_leaf = ((0, 0), record { level = 0; number = 0; corner = 0; s = 0; t = 0 })

pub position-by-words : (grid : ℕ) (position : ℕ × ℕ) →
    codes " at" ++ ((32 ∷ ratio_text (lowest (position.0, grid))) ++ ((32 ∷ ratio_text (lowest (position.1, grid))) ++ (10 ∷ []))) ≡ line_text [] (position_words grid position)
position-by-words grid position = ended-words (position_words grid position)

pub leaf-by-words : (grid : ℕ) (leaf : Location) →
    count_words (codes " level") leaf.level
    ++ (count_words (codes " face") leaf.number ++ (count_words (codes " corner") leaf.corner ++ line_text [] (position_words grid (leaf.s, leaf.t))))
    ≡ line_text [] (leaf_words grid leaf)
leaf-by-words grid leaf =
    ap (λ rest. count_words (codes " level") leaf.level ++ (count_words (codes " face") leaf.number ++ (count_words (codes " corner") leaf.corner ++ rest)))
    (sym (ended-words (position_words grid (leaf.s, leaf.t))))
    ∙ ended-words (leaf_words grid leaf)

pub leaf-line-by-words : (grid : ℕ) (place : ℕ × ℕ) (leaf : Location) →
    (count_words (codes "p") place.0 ++ (32 ∷ number_text place.1)) ++ line_text [] (leaf_words grid leaf) ≡ leaf_line grid place leaf
leaf-line-by-words grid place leaf =
    append_assoc (count_words (codes "p") place.0) (32 ∷ number_text place.1) (line_text [] (leaf_words grid leaf))
    ∙ ap (λ rest. count_words (codes "p") place.0 ++ ((32 ∷ number_text place.1) ++ rest)) (sym (ended-words (leaf_words grid leaf)))
    ∙ ap (λ rest. codes "p" ++ rest) (ended-words (number_text place.0 ∷ number_text place.1 ∷ leaf_words grid leaf))
