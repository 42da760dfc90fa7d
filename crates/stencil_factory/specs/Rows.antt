-- The rows of a stencil table: their control points, their denominators, and the values they give for control numbers.
-- Source: stencil tables of OpenSubdiv's Far layer, with exact weights.
use Rattle.std.specs.Prelude.{ℕ, ◌≡◌, ◌<◌, ℤ, List, length, map}
use Rattle.std.specs.List.{zip}
use Rattle.subdiv_model.specs.Value.{Value, IsSameValue}
use Rattle.subdiv_model.specs.Refined.{point_value}
use Rattle.stencil_apply.specs.Table.{Table}
pub use Rattle.place_sums.specs.Shares.{support_of, share_sum}

-- The control points of each row.
abbrev pub supports_of : Table → List (List ℕ)
supports_of table = map (λ row. support_of row.shares) table.rows

-- The denominator of each row.
abbrev pub dens_of : Table → List ℕ
dens_of table = map (λ row. row.den) table.rows

-- The value of each row for these control numbers.
abbrev pub row_values : Table → List ℤ → List Value
row_values table numbers = map (λ row. record { num = share_sum numbers row.shares; den = row.den }) table.rows

-- The numbers as values, each over its denominator.
abbrev pub values_over : List ℕ → List ℤ → List Value
values_over dens numbers = map (λ p. record { num = p.0; den = p.1 }) (zip numbers dens)

-- Both lists have the same length and equal values. Equal values may have different denominators.
pub record AreSameValues (values others : List Value) : Type 0 where
  pub count : length values ≡ length others
  pub same : (p : ℕ) → p < length others → IsSameValue (point_value values p) (point_value others p)
