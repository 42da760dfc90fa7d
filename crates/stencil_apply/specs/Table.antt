-- The rows of a table over controls.
-- Source: OpenSubdiv's Far layer for stencil tables.
use Rattle.std.specs.Prelude.{ℕ, ◌-◌, ℤ, pos, List, [], get_or, take, drop}
use Rattle.std.specs.List.{fold}
pub use Rattle.subdiv_model.specs.Table.{Share, Row, Table, total_of, IsRow, IsTable, row_at, entries_of, greatest_of}
use Rattle.ratio128.specs.Numbers.{plus_times, zeros}

-- the rows of a range
abbrev pub rows_in : Table → ℕ → ℕ → List Row
rows_in table from to = take (to - from) (drop from table.rows)

-- the sum of shares times the numbers of their controls, from `start` on
abbrev pub sum_of_shares : List ℤ → List (List ℤ) → List Share → List ℤ
sum_of_shares start controls shares =
    fold (λ sum share. plus_times (pos share.1) sum (get_or controls share.0 [])) start shares

-- the sum of a row's numerators times the numbers of its controls, from `start` on
abbrev pub sum_of_row : List ℤ → List (List ℤ) → Row → List ℤ
sum_of_row start controls row = sum_of_shares start controls row.shares

-- the sum of row `row` of a table over the controls, as long as `like`
abbrev pub row_sum : Table → ℕ → List (List ℤ) → List ℤ → List ℤ
row_sum table row controls like = sum_of_row (zeros like) controls (row_at table row)
