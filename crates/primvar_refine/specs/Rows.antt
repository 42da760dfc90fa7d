-- Values of points as rows: some numerators over one denominator. Source: this library.
use Rattle.std.specs.Prelude.{ℕ, ◌≡◌, ◌+◌, ◌-◌, ◌*◌, ◌/◌, ◌<◌, ◌≤◌, ℤ, pos, List, [], length, map, get_or, max}
use Rattle.std.specs.List.{All, fold}
use Rattle.subdiv_model.specs.Value.{Value, IsSameValue}
use Rattle.subdiv_model.specs.Refined.{point_value}
use Rattle.subdiv_model.specs.Channel.{number_bound}
use Rattle.ratio128.specs.Numbers.{greatest_amount}

pub record Row : Type 0 where
  pub numbers : List ℤ
  pub den : ℕ

abbrev pub row_at : List Row → ℕ → Row
row_at rows p = get_or rows p (record { numbers = []; den = 1 })

abbrev pub dens_of : List Row → List ℕ
dens_of rows = map (λ row. row.den) rows

-- the value of a point in a column
abbrev pub value_at : List Row → ℕ → ℕ → Value
value_at rows column p = record { num = get_or (row_at rows p).numbers column (pos 0); den = (row_at rows p).den }

-- a column of the rows has these values; the fractions may differ in their terms
pub record StandFor (rows : List Row) (column : ℕ) (values : List Value) : Type 0 where
  pub count : length values ≡ length rows
  pub same : (p : ℕ) → p < length rows → IsSameValue (point_value values p) (value_at rows column p)

-- denominators of at least 1, all numbers within their bounds, and the same number of numerators for each point
pub record AreGood (rows : List Row) : Type 0 where
  pub positive : All (λ row. 0 < row.den) rows
  pub short : All (λ row. row.den ≤ number_bound) rows
  pub kept : All (λ row. greatest_amount row.numbers ≤ number_bound) rows
  pub alike : All (λ row. length row.numbers ≡ length (row_at rows 0).numbers) rows

-- no value exceeds a whole number in amount
abbrev pub AreWithin : ℕ → List Row → Type 0
AreWithin most rows = All (λ row. greatest_amount row.numbers ≤ row.den * most) rows

-- the least whole number that is at least a fraction, and the least that no value exceeds in amount
abbrev pub rounded_up : ℕ → ℕ → ℕ
rounded_up num den = (num + (den - 1)) / den

abbrev pub least_bound : List Row → ℕ
least_bound rows = fold max 0 (map (λ row. rounded_up (greatest_amount row.numbers) row.den) rows)

-- the greatest number, or 1 for an empty list
abbrev pub greatest_of : List ℕ → ℕ
greatest_of numbers = fold max 1 numbers
