-- Values as fractions that are never reduced.
-- Source: Drillolive.
use Rattle.std.specs.Prelude.{ℕ, ◌*◌, ◌≡◌, ℤ, pos, ◌+ℤ◌, ◌*ℤ◌, List, [], ◌∷◌}

-- a coordinate: a numerator over a denominator of at least 1, in any terms
pub record Value : Type 0 where
  pub num : ℤ
  pub den : ℕ

-- the values are equal: they cross-multiply
abbrev pub IsSameValue : Value → Value → Type 0
IsSameValue x y = x.num *ℤ pos y.den ≡ y.num *ℤ pos x.den

-- the value is a whole number over this denominator
pub record IsWholeOver (den : ℕ) (x : Value) : Type 0 where
  pub num : ℤ
  pub same : IsSameValue x (record { num = num; den = den })

-- a whole number as a value, over 1
abbrev pub whole_value : ℤ → Value
whole_value n = record { num = n; den = 1 }

-- (a, b) + (c, d) is (a·d + c·b, b·d)
abbrev pub plus_value : Value → Value → Value
plus_value x y = record { num = x.num *ℤ pos y.den +ℤ y.num *ℤ pos x.den; den = x.den * y.den }

-- the product of a value (a, b) and a weight w over q: (w·a, q·b)
abbrev pub weighted : ℕ → ℕ → Value → Value
weighted w q x = record { num = pos w *ℤ x.num; den = q * x.den }

-- the sum of a list of values
abbrev pub sum_of_values : List Value → Value
sum_of_values [] = whole_value (pos 0)
sum_of_values (x ∷ xs) = plus_value x (sum_of_values xs)
