-- Least common multiples.
-- Source: Drillolive.
use Rattle.std.specs.Prelude.{ℕ, ◌*◌, ◌/◌, List, [], ◌∷◌, map}
use Rattle.subdiv_model.specs.Fractions.{gcd_of}

-- the least common multiple: the product divided by the greatest common divisor
abbrev pub lcm_of : ℕ → ℕ → ℕ
lcm_of a b = a * (b / gcd_of a b)

-- the least common multiple of all numbers of a list, and 1 for an empty list
abbrev pub lcm_of_all : List ℕ → ℕ
lcm_of_all [] = 1
lcm_of_all (n ∷ ns) = lcm_of n (lcm_of_all ns)

-- the least common multiple of the denominators of fractions
abbrev pub common_denominator : List (ℕ × ℕ) → ℕ
common_denominator values = lcm_of_all (map (λ x. x.1) values)
