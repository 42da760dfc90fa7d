-- Masks over a grid of points, made from weights along the rows and weights across them.
-- Source: the uniform cubic B-spline, and its refinement by halves.
use Rattle.std.specs.Prelude.{ℕ, zero, suc, List, [], ◌∷◌, zip}
use Rattle.std.specs.List.{flat_map}
use Rattle.subdiv_model.specs.Mask.{Mask, mask_of}
use Rattle.subdiv_model.specs.Patch.{row_terms}

-- each point of the grid, weighted by its weight along the rows times its weight across them
abbrev pub tensor_mask : List ℕ → List ℕ → List (List ℕ) → ℕ → Mask
tensor_mask along across grid denominator = mask_of (flat_map (row_terms along) (zip across grid)) denominator

-- the weights, over 8, of a point of the next level in four points of a row; new points of edges lie between old points
abbrev pub subdivision_weights : ℕ → List ℕ
subdivision_weights zero = 4 ∷ 4 ∷ 0 ∷ 0 ∷ []
subdivision_weights (suc zero) = 1 ∷ 6 ∷ 1 ∷ 0 ∷ []
subdivision_weights (suc (suc zero)) = 0 ∷ 4 ∷ 4 ∷ 0 ∷ []
subdivision_weights (suc (suc (suc i))) = 0 ∷ 1 ∷ 6 ∷ 1 ∷ []
