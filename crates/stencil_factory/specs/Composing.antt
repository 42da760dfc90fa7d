-- How one row is composed, and which rows a table has after the first masks.
use Rattle.std.specs.Prelude.{ℕ, ◌≡◌, ◌+◌, ◌*◌, ◌<◌, ◌≤◌, ℤ, List, [], ◌∷◌, length}
use Rattle.std.specs.List.{AllByRecursion, sum_by}
use Rattle.subdiv_model.specs.Level.{Level}
use Rattle.subdiv_model.specs.Value.{Value}
use Rattle.subdiv_model.specs.Mask.{Mask}
use Rattle.subdiv_model.specs.Refined.{mask_value, source_value, mask_denominator, source_denominator}
use Rattle.subdiv_model.specs.Support.{mask_support, source_support}
use Rattle.mask_laws.proofs.SumLemmas.{IsOver}
use Rattle.stencil_apply.specs.Table.{Share, Row, Table, IsRow, row_at, total_of}
use Rattle.stencil_factory.specs.Rows.{support_of, supports_of, dens_of, share_sum, row_values, AreSameValues}
use Rattle.place_sums.specs.Sums.{added_shares, sum_of}

-- The sums after adding the row of each weighted point, times its weight.
abbrev pub added_rows : Table → List Share → List ℕ → List ℕ
added_rows table [] sums = sums
added_rows table (weight ∷ weights) sums = added_rows table weights (added_shares weight.1 (row_at table weight.0).shares sums)

-- The total that the weighted rows add to all sums.
abbrev pub rows_total : Table → List Share → ℕ
rows_total table weights = sum_by (λ weight. weight.1 * total_of (row_at table weight.0).shares) weights

-- The table has a row for each weighted point, each weight is above 0, and all sums together stay at most `most`.
pub record CanAddRows (most : ℕ) (table : Table) (weights : List Share) (sums : List ℕ) : Type 0 where
  pub places : length sums ≡ table.controls
  pub inside : AllByRecursion (λ weight. weight.0 < length table.rows) weights
  pub each : AllByRecursion (λ weight. 0 < weight.1) weights
  pub fits : sum_of sums + rows_total table weights ≤ most

-- `row` is the row of a point with the mask `mask`.
pub record IsComposedRow (level : Level) (table : Table) (mask : Mask) (row : Row) : Type 0 where
  pub is : IsRow table.controls row
  pub den : row.den ≡ mask_denominator (source_denominator level (dens_of table)) mask
  pub support : support_of row.shares ≡ mask_support table.controls (source_support table.controls level (supports_of table)) mask
  pub value : (numbers : List ℤ) (values : List Value) → AreSameValues values (row_values table numbers)
      → IsOver row.den (mask_value (source_value level values) mask) (share_sum numbers row.shares)

-- The rows are those of the masks, one for each, in the same order.
abbrev pub AreComposedRows : Level → Table → List Mask → List Row → Type 0
AreComposedRows level table [] [] = Unit {0}
AreComposedRows level table [] (row ∷ rows) = ⊥
AreComposedRows level table (mask ∷ masks) [] = ⊥
AreComposedRows level table (mask ∷ masks) (row ∷ rows) = IsComposedRow level table mask row × AreComposedRows level table masks rows
