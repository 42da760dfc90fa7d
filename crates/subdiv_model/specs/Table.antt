-- Stencil tables: each row gives a point as a mean of control points.
-- Source: OpenSubdiv's Far layer for stencil tables; exact numerators over a denominator for each row are Drillolive's.
use Rattle.std.specs.Prelude.{ℕ, ◌≡◌, ◌^◌, ◌<◌, ◌≤◌, List, [], length, map, get_or, max}
use Rattle.std.specs.List.{All, fold, sum_by, enumerate_from}
use Rattle.std.specs.List.Sorted.{IsStrictlyIncreasing}
use Rattle.subdiv_model.specs.Level.{Level}
use Rattle.subdiv_model.specs.Mask.{Scheme}
use Rattle.subdiv_model.specs.Refined.{refined_denominators}
use Rattle.subdiv_model.specs.Support.{refined_supports, stencil_numerator}
use Rattle.subdiv_model.specs.Channel.{number_bound}

-- a control point and its numerator
abbrev pub Share : Type 0
Share = ℕ × ℕ

-- a row: its denominator, and its control points with their numerators
pub record Row : Type 0 where
  pub den : ℕ
  pub shares : List Share

-- a table: the number of control points, and its rows
pub record Table : Type 0 where
  pub controls : ℕ
  pub rows : List Row

-- the sum of the numerators
abbrev pub total_of : List Share → ℕ
total_of shares = sum_by (λ share. share.1) shares

-- a row over a number of control points: each occurs once, ascending, with a numerator above 0, and the numerators sum to the
-- denominator
pub record IsRow (controls : ℕ) (row : Row) : Type 0 where
  pub positive : 0 < row.den
  pub short : row.den ≤ number_bound
  pub ascending : IsStrictlyIncreasing (map (λ share. share.0) row.shares)
  pub inside : All (λ share. share.0 < controls) row.shares
  pub each : All (λ share. 0 < share.1) row.shares
  pub whole : total_of row.shares ≡ row.den

-- a table within its limits
pub record IsTable (table : Table) : Type 0 where
  pub rows : All (IsRow table.controls) table.rows
  pub controls_few : table.controls ≤ 2 ^ 27
  pub rows_few : length table.rows ≤ 2 ^ 27
  pub entries_few : sum_by (λ row. length row.shares) table.rows ≤ 2 ^ 27

-- the row of this number
abbrev pub row_at : Table → ℕ → Row
row_at table row = get_or table.rows row (record { den = 1; shares = [] })

-- the number of entries of rows
abbrev pub entries_of : List Row → ℕ
entries_of rows = sum_by (λ row. length row.shares) rows

-- the greatest denominator, and 1 for a table without rows
abbrev pub greatest_of : Table → ℕ
greatest_of table = fold max 1 (map (λ row. row.den) table.rows)

-- the row of a point after k steps, from its number and its support
abbrev pub level_row : Level → Scheme → ℕ → ℕ × List ℕ → Row
level_row level scheme k point = record {
  den = get_or (refined_denominators level scheme k) point.0 1;
  shares = map (λ control. (control, stencil_numerator level scheme k point.0 control)) point.1;
}

-- the table of the level after k steps
abbrev pub level_table : Level → Scheme → ℕ → Table
level_table level scheme k = record {
  controls = level.point_count;
  rows = map (level_row level scheme k) (enumerate_from 0 (refined_supports level scheme k));
}
