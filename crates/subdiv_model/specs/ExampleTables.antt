-- A small table with its text, and the results of reading texts.
use Rattle.std.specs.Prelude.{ℕ, List, [], ◌∷◌, codes, Result, Ok, Err}
use Rattle.subdiv_model.specs.Table.{Table}
use Rattle.subdiv_model.specs.TableFault.{TableCause, TableFault}
use Rattle.subdiv_model.specs.ReadTable.{Reading}

-- a table of one row: three quarters of one control point and a quarter of another
abbrev pub small_table : Table
small_table = record { controls = 2; rows = record { den = 4; shares = (0, 3) ∷ (1, 1) ∷ [] } ∷ [] }

-- the text of the small table
abbrev pub small_text : List ℕ
small_text = codes "table controls 2 rows 1 entries 2\ns 4 0 3 1 1\n"

-- the result that reads this table and leaves these bytes
abbrev pub read_as : Table → List ℕ → Result Reading TableFault
read_as table rest = Ok (record { table = table; rest = rest })

-- the result that refuses a line for a cause
abbrev pub refused_at : ℕ → TableCause → Result Reading TableFault
refused_at line cause = Err (record { line = line; cause = cause })
