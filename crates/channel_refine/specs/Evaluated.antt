-- The values of the rows of a table over controls of several numbers each.
-- Source: this profile.
use Rattle.std.specs.Prelude.{◌≡◌, ◌*◌, ◌≤◌, ℤ, List, [], length, map, get_or}
use Rattle.std.specs.List.{All}
use Rattle.subdiv_model.specs.Channel.{number_bound}
use Rattle.ratio128.specs.Numbers.{zeros, greatest_amount}
use Rattle.stencil_apply.specs.Table.{Table, greatest_of, sum_of_row}
use Rattle.primvar_refine.specs.Rows.{Row}

-- the controls as rows over 1
abbrev pub control_rows : List (List ℤ) → List Row
control_rows controls = map (λ numbers. record { numbers = numbers; den = 1 }) controls

-- the table can be evaluated: a control for each of its control points, as many numbers for each, products within the bound
pub record CanEvaluate (table : Table) (controls : List (List ℤ)) : Type 0 where
  pub each : length controls ≡ table.controls
  pub alike : All (λ numbers. length numbers ≡ length (get_or controls 0 [])) controls
  pub fits : All (λ numbers. greatest_of table * greatest_amount numbers ≤ number_bound) controls

-- the value of each row over its denominator
abbrev pub evaluated : Table → List (List ℤ) → List Row
evaluated table controls =
    map (λ row. record { numbers = sum_of_row (zeros (get_or controls 0 [])) controls row; den = row.den }) table.rows
