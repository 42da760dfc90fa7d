-- What `evaluate_masks` returns: the values of the rows of masks over controls, without a table of these rows.
use Rattle.std.specs.Prelude.{ℕ, ◌≡◌, ◌*◌, ◌≤◌, ℤ, List, [], length, map, get_or}
use Rattle.std.specs.List.{All}
use Rattle.subdiv_model.specs.Level.{Level}
use Rattle.subdiv_model.specs.Mask.{Mask}
use Rattle.ratio128.specs.Numbers.{zeros, greatest_amount}
use Rattle.stencil_apply.specs.Table.{Row, Table, IsTable, entries_of, sum_of_row}
use Rattle.stencil_apply.specs.Means.{word_bound}
use Rattle.stencil_factory.specs.MaskRows.{mask_dens, mask_entries, AreMaskRows}

-- The masks can be evaluated in 64 bits. There is a list of numbers for each control point, all of one length. No common denominator
-- of a row is above `bound`. This bound, and its product with each amount in the controls, are at most 2^63 - 1.
pub record CanEvaluateMasks (level : Level) (masks : List Mask) (table : Table) (controls : List (List ℤ)) : Type 0 where
  pub each : length controls ≡ table.controls
  pub alike : All (λ numbers. length numbers ≡ length (get_or controls 0 [])) controls
  pub bound : ℕ
  pub short : bound ≤ word_bound
  pub dens : All (λ den. den ≤ bound) (mask_dens level table masks)
  pub room : All (λ numbers. bound * greatest_amount numbers ≤ word_bound) controls

-- The sum of the row's numerators times the numbers of their controls, with the row's denominator.
abbrev pub row_value : List (List ℤ) → Row → List ℤ × ℕ
row_value controls row = (sum_of_row (zeros (get_or controls 0 [])) controls row, row.den)

-- The values are those of the rows of a table of the masks, in the same order.
pub record AreMaskValues (level : Level) (masks : List Mask) (table : Table) (controls : List (List ℤ)) (values : List (List ℤ × ℕ)) : Type 0 where
  pub composed : Table
  pub formed : IsTable composed
  pub rows : AreMaskRows level masks table composed
  pub entries : entries_of composed.rows ≡ mask_entries level table masks
  pub each : values ≡ map (row_value controls) composed.rows
