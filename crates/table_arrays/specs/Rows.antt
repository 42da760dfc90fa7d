-- The table whose rows are in a caller's arrays.
use Rattle.std.specs.Prelude.{ℕ, ◌≡◌, ◌+◌, ◌-◌, ◌^◌, ◌<◌, ◌≤◌, ◌⊎◌, ◌&&◌, Bool, true, false, nat_eq, nat_le, List, length, map, get_or, Result, MatchResult}
use Rattle.std.specs.List.{range_with_len}
use Rattle.subdiv_model.specs.Table.{Share, Row, Table, IsRow}
use Rattle.flat_arrays.specs.Words.{natural_of}
use Rattle.flat_arrays.specs.declared.wide.Wide.{Wide}
use Rattle.array_answers.specs.ArrayRecords.{row}
use Rattle.array_answers.specs.declared.record.FaultRecord.{FaultRecord}
use Rattle.table_arrays.specs.declared.exact_rows.ExactRows.{ExactRows}

-- the number at a place of an array
abbrev pub number_at : List Wide → ℕ → ℕ
number_at numbers place = natural_of (get_or numbers place (record { low = 0; high = 0 }))

-- the place of a row's first entry
abbrev pub start_of : ExactRows → ℕ → ℕ
start_of rows r = get_or rows.starts.now r 0

-- the entry at a place: its control point and its numerator
abbrev pub share_at : ExactRows → ℕ → Share
share_at rows place = (get_or rows.indices.now place 0, number_at rows.numerators.now place)

-- the entries from one place up to another
abbrev pub share_range : ExactRows → ℕ → ℕ → List Share
share_range rows from to = map (share_at rows) (range_with_len from (to - from))

-- a row: its denominator, and the entries up to the start of the next row
abbrev pub row_in : ExactRows → ℕ → Row
row_in rows r = record {
  den = number_at rows.denominators.now r;
  shares = share_range rows (start_of rows r) (start_of rows (r + 1));
}

-- the first rows of the arrays
abbrev pub rows_to : ExactRows → ℕ → List Row
rows_to rows count = map (row_in rows) (range_with_len 0 count)

-- a row for each denominator
abbrev pub rows_of : ExactRows → List Row
rows_of rows = rows_to rows (length rows.denominators.now)

-- the table of the rows of the arrays
abbrev pub table_of : ExactRows → Table
table_of rows = record { controls = rows.controls; rows = rows_of rows }

-- at most 2^27 control points, rows and entries, a numerator for each control point of an entry, and one start more than there are rows
abbrev pub is_in_shape : ExactRows → Bool
is_in_shape rows =
    nat_le rows.controls (2 ^ 27)
    && nat_le (length rows.denominators.now) (2 ^ 27)
    && nat_le (length rows.indices.now) (2 ^ 27)
    && nat_eq (length rows.numerators.now) (length rows.indices.now)
    && nat_eq (length rows.starts.now) (length rows.denominators.now + 1)

-- the entries of a row are within the arrays and are a row over the control points
pub record IsGoodRow (rows : ExactRows) (r : ℕ) : Type 0 where
  pub forward : start_of rows r ≤ start_of rows (r + 1)
  pub inside : start_of rows (r + 1) ≤ length rows.indices.now
  pub is_row : IsRow rows.controls (row_in rows r)

-- this row is invalid, and all rows before it are valid
pub record IsFirstBad (rows : ExactRows) (r : ℕ) : Type 0 where
  pub inside : r < length rows.denominators.now
  pub before : (k : ℕ) → k < r → IsGoodRow rows k
  pub bad : IsGoodRow rows r → ⊥

-- the arrays are valid, and this is their table
pub record IsTableOf (rows : ExactRows) (table : Table) : Type 0 where
  pub shape : is_in_shape rows ≡ true
  pub good : (k : ℕ) → k < length rows.denominators.now → IsGoodRow rows k
  pub same : table ≡ table_of rows

-- the record of arrays whose lengths do not fit
abbrev pub bad_shape : FaultRecord
bad_shape = row 17 17 0 1

-- the record of an invalid row
abbrev pub bad_row : ℕ → FaultRecord
bad_row r = row 17 17 r 0

-- the record of no memory
abbrev pub no_memory : FaultRecord
no_memory = row 11 0 0 0

-- the record is that of the first invalid row
pub record IsRowRefused (rows : ExactRows) (found : FaultRecord) : Type 0 where
  pub shape : is_in_shape rows ≡ true
  pub place : ℕ
  pub first : IsFirstBad rows place
  pub recorded : found ≡ bad_row place

-- the lengths of the arrays do not fit, or a row is invalid, or memory ran out
abbrev pub AreRowsRefused : ExactRows → FaultRecord → Type 0
AreRowsRefused rows found = ((is_in_shape rows ≡ false) × (found ≡ bad_shape)) ⊎ (IsRowRefused rows found ⊎ (found ≡ no_memory))

-- the table of the arrays, or the record of their first fault
abbrev pub IsTableOfRows : ExactRows → Result Table FaultRecord → Type 0
IsTableOfRows rows result = MatchResult result (IsTableOf rows) (AreRowsRefused rows)
