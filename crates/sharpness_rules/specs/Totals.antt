-- Sums of values over their common denominator.
use Rattle.std.specs.Prelude.{◌≡◌, ℕ, ◌+◌, ◌-◌, ◌*◌, ◌/◌, ◌^◌, ◌<◌, List, length, Result, MatchResult}
use Rattle.std.specs.List.{sum_by}
use Rattle.subdiv_model.specs.Multiples.{common_denominator}
use Rattle.sharpness_rules.specs.declared.overflow.SharpOverflow.{SharpOverflow}
use Rattle.sharpness_rules.specs.declared.total.Total.{Total}

-- The numerator of a value over a denominator.
abbrev pub parts_over : ℕ → ℕ × ℕ → ℕ
parts_over den value = value.0 * (den / value.1)

-- The total is the sum of these values.
pub record IsTotal (values : List (ℕ × ℕ)) (total : Total) : Type 0 where
  pub count : total.count ≡ length values
  pub den : total.den ≡ common_denominator values
  pub num : total.num ≡ sum_by (parts_over total.den) values

-- The result is the total of these values, or their common denominator exceeds 2^60.
abbrev pub Sums : List (ℕ × ℕ) → Result Total SharpOverflow → Type 0
Sums values result = MatchResult result (IsTotal values) (λ _. 2 ^ 60 < common_denominator values)

-- The half of one of these values by the method `Chaikin`, as a fraction. It is 3/4 of the value plus its share of the others, less 1, and
-- not below 0.
abbrev pub half_fraction : Total → ℕ × ℕ → ℕ × ℕ
half_fraction total value =
    let own = parts_over total.den value in
    let whole = 4 * (total.count - 1) * total.den in
    (3 * (total.count - 1) * own + (total.num - own) - whole, whole)
