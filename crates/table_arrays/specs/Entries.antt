-- The validity of a row of a caller's arrays, and its entries.
use Rattle.std.specs.Prelude.{ℕ, ◌≡◌, ◌&&◌, Bool, true, false, nat_eq, List}
use Rattle.subdiv_model.specs.ReadTable.{is_row_in_range}
use Rattle.subdiv_model.specs.Table.{Row, total_of}
use Rattle.stencil_apply.specs.Arrays.{shares_of}
use Rattle.stencil_apply.specs.declared.entry.Entry.{Entry}
use Rattle.table_arrays.specs.Rows.{IsGoodRow, row_in}
use Rattle.table_arrays.specs.declared.exact_rows.ExactRows.{ExactRows}

-- a test of a row over this number of control points
abbrev pub is_row : ℕ → Row → Bool
is_row controls row = is_row_in_range controls row && nat_eq (total_of row.shares) row.den

-- the row is valid and these are its entries, or it is invalid
abbrev pub IsJudged : ExactRows → ℕ → List Entry → Bool → Type 0
IsJudged rows r entries true = IsGoodRow rows r × (shares_of entries ≡ (row_in rows r).shares)
IsJudged rows r entries false = IsGoodRow rows r → ⊥
