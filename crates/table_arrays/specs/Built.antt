-- The table of the first rows of a caller's arrays.
use Rattle.std.specs.Prelude.{ℕ, ◌≡◌, ◌+◌, ◌<◌, Bool, true, false, length, Option, MatchOption}
use Rattle.subdiv_model.specs.Table.{Table, entries_of}
use Rattle.table_arrays.specs.Rows.{IsFirstBad, IsGoodRow, rows_to, start_of}
use Rattle.table_arrays.specs.declared.exact_rows.ExactRows.{ExactRows}
use Rattle.table_arrays.specs.declared.table.RowsFault.{RowsFault}
use Rattle.table_arrays.specs.declared.table.RowsFault.TheVariants as fault

-- the first rows are valid, and this is their table, with all entries up to the start of the next row
pub record AreFirstRows (rows : ExactRows) (count : ℕ) (table : Table) : Type 0 where
  pub good : (k : ℕ) → k < count → IsGoodRow rows k
  pub same : table ≡ record { controls = rows.controls; rows = rows_to rows count }
  pub entries : entries_of table.rows + start_of rows 0 ≡ start_of rows count

-- a valid row is added, an invalid one is not
abbrev pub IsAdded : ExactRows → ℕ → Table → Bool → Type 0
IsAdded rows r table true = AreFirstRows rows (r + 1) table
IsAdded rows r table false = IsGoodRow rows r → ⊥

-- the table of all rows, or the first invalid row
abbrev pub AreAdded : ExactRows → Table → Option ℕ → Type 0
AreAdded rows table bad = MatchOption bad (AreFirstRows rows (length rows.denominators.now) table) (λ r. IsFirstBad rows r)

-- the first invalid row, or no memory
abbrev pub IsRowsFault : ExactRows → RowsFault → Type 0
IsRowsFault rows (fault.Row r) = IsFirstBad rows r
IsRowsFault rows fault.Memory = Unit {0}
