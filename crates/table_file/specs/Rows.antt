-- The rows so far of a table, while it is read.
use Rattle.std.specs.Prelude.{ℕ, ◌≡◌, ◌+◌, ◌-◌, ◌≤◌, ◌++◌, ◌∷◌, [], List, length, drop, Result}
use Rattle.subdiv_model.specs.ReadTable.{Header, Reading, read_rows, read_table}
use Rattle.subdiv_model.specs.Table.{Row, entries_of}
use Rattle.subdiv_model.specs.TableFault.{TableFault}
use Rattle.table_file.specs.declared.rows.Rows.{Rows}

-- the rows name control points of the first line's, and have no more entries than it states
pub record AreRowsOf (header : Header) (rows : Rows) : Type 0 where
  pub controls : rows.builder.table.controls ≡ header.controls
  pub entries : rows.entries ≡ entries_of rows.builder.table.rows
  pub few : rows.entries ≤ header.entries

-- the rows with one more row
pub record AreRowsWith (header : Header) (old new : Rows) (row : Row) : Type 0 where
  pub rows : new.builder.table.rows ≡ old.builder.table.rows ++ row ∷ []
  pub good : AreRowsOf header new

-- the result of reading bytes after these rows
abbrev pub read_on : Header → Rows → List ℕ → Result Reading TableFault
read_on header rows bytes = read_rows header (header.rows - length rows.builder.table.rows) rows.builder.table.rows bytes

-- the rows with one more row; the bytes from a place on are still to be read
pub record IsRowRead (header : Header) (bytes : List ℕ) (at : ℕ) (old new : Rows) (next : ℕ) : Type 0 where
  pub same : read_on header old (drop at bytes) ≡ read_on header new (drop next bytes)
  pub good : AreRowsOf header new
  pub count : length new.builder.table.rows ≡ length old.builder.table.rows + 1
  pub inside : next ≤ length bytes

-- the first line is read; the bytes from a place on are still to be read
pub record IsFirstRead (bytes : List ℕ) (header : Header) (next : ℕ) : Type 0 where
  pub same : read_table bytes ≡ read_rows header header.rows [] (drop next bytes)
  pub inside : next ≤ length bytes
