-- Fractions of at least 0, as pairs (numerator, denominator) in any terms.
-- Source: Drillolive.
use Rattle.std.specs.Prelude.{ℕ, zero, suc, ◌+◌, ◌-◌, ◌*◌, ◌/◌, ◌%◌, List, [], ◌∷◌}

-- Euclid's algorithm in at most `steps` steps
abbrev pub gcd_within : ℕ → ℕ → ℕ → ℕ
gcd_within zero a b = a
gcd_within (suc steps) a zero = a
gcd_within (suc steps) a (suc b) = gcd_within steps (suc b) (a % suc b)

-- the greatest common divisor; each step decreases the second number, so `b + 1` steps are enough
abbrev pub gcd_of : ℕ → ℕ → ℕ
gcd_of a b = gcd_within (suc b) a b

-- the fraction in lowest terms
abbrev pub lowest : ℕ × ℕ → ℕ × ℕ
lowest x = (x.0 / gcd_of x.0 x.1, x.1 / gcd_of x.0 x.1)

-- the sum of two fractions, not reduced
abbrev pub plus_fraction : ℕ × ℕ → ℕ × ℕ → ℕ × ℕ
plus_fraction x y = (x.0 * y.1 + y.0 * x.1, x.1 * y.1)

-- the difference, and 0 if it is below 0
abbrev pub minus_fraction : ℕ × ℕ → ℕ × ℕ → ℕ × ℕ
minus_fraction x y = (x.0 * y.1 - y.0 * x.1, x.1 * y.1)

-- the product of two fractions, not reduced
abbrev pub times_fraction : ℕ × ℕ → ℕ × ℕ → ℕ × ℕ
times_fraction x y = (x.0 * y.0, x.1 * y.1)

-- the sum of a list of fractions
abbrev pub sum_of_fractions : List (ℕ × ℕ) → ℕ × ℕ
sum_of_fractions [] = (0, 1)
sum_of_fractions (x ∷ xs) = plus_fraction x (sum_of_fractions xs)
