-- Rows of shares, and the values they give.
use Rattle.std.specs.Prelude.{ℕ, ℤ, pos, ◌+ℤ◌, ◌*ℤ◌, List, [], ◌∷◌, get_or}
use Rattle.subdiv_model.specs.Level.{Level}
use Rattle.subdiv_model.specs.Mask.{Scheme}
use Rattle.subdiv_model.specs.Value.{Value}
use Rattle.subdiv_model.specs.Refined.{refined_denominators}
use Rattle.subdiv_model.specs.Support.{stencil_numerator}

-- the sum of a number for each point of a list
abbrev pub sum_over : (ℕ → ℤ) → List ℕ → ℤ
sum_over number [] = pos 0
sum_over number (v ∷ points) = number v +ℤ sum_over number points

-- the sum, over some control points, of shares times control numbers
abbrev pub sum_of_shares : (ℕ → ℕ) → List ℤ → List ℕ → ℤ
sum_of_shares share controls points = sum_over (λ v. pos (share v) *ℤ get_or controls v (pos 0)) points

-- the sum of shares times numbers of the listed control points, over the common denominator of a point after k steps
abbrev pub value_of_shares : Level → Scheme → List ℤ → ℕ → ℕ → List ℕ → Value
value_of_shares level scheme controls k point points = record {
  num = sum_of_shares (stencil_numerator level scheme k point) controls points;
  den = get_or (refined_denominators level scheme k) point 1;
}
