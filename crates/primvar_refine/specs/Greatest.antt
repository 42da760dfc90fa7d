-- The greatest denominator, and the first place that has it.
use Rattle.std.specs.Prelude.{ℕ, ◌≡◌, ◌<◌, List, length, get_or}
use Rattle.primvar_refine.specs.Rows.{greatest_of}

-- a denominator above 1 has a place
pub record IsGreatestAt (dens : List ℕ) (den place : ℕ) : Type 0 where
  pub greatest : den ≡ greatest_of dens
  pub exists : 1 < den → place < length dens
  pub there : 1 < den → get_or dens place 1 ≡ den
  pub first : 1 < den → (q : ℕ) → q < place → get_or dens q 1 < den
