-- The numbers of a format that are nearest to fractions, in order.
use Rattle.std.specs.Prelude.{ℕ, ℤ, List, [], ◌∷◌}
use Rattle.nearest_float.specs.Binary.{Format}
use Rattle.nearest_float.specs.Nearest.{IsNearest}

-- Each number is nearest to the fraction at its place.
abbrev pub AreNearest : Format → List (ℤ × ℕ) → List ℕ → Type 0
AreNearest f [] [] = Unit {0}
AreNearest f [] (bits ∷ all) = ⊥
AreNearest f (fraction ∷ others) [] = ⊥
AreNearest f (fraction ∷ others) (bits ∷ all) = IsNearest f fraction.0 fraction.1 bits × AreNearest f others all
