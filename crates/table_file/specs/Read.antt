-- The result of reading a stored table.
use Rattle.std.specs.Prelude.{ℕ, ◌≡◌, ◌≤◌, true, List, length, drop, Result, Ok, Err, MatchResult}
use Rattle.std.specs.List.{before_first}
use Rattle.subdiv_model.specs.ObjLine.{is_lf}
use Rattle.subdiv_model.specs.ReadTable.{Reading, has_line, behind_line, read_table}
use Rattle.subdiv_model.specs.Table.{Table}
use Rattle.subdiv_model.specs.TableFault.{TableFault}
use Rattle.table_file.specs.View.{cause_of}
use Rattle.table_file.specs.declared.fault.TableReadFault.{TableReadFault}
use Rattle.table_file.specs.declared.fault.TableReadFault.TheVariants as read

-- a table that was read, and the number of bytes of its text
pub record TableRead : Type 0 where
  pub table : Table
  pub end : ℕ

-- the line begins at a place, and the next line at another
pub record IsLine (bytes : List ℕ) (at : ℕ) (line : List ℕ) (next : ℕ) : Type 0 where
  pub closed : has_line (drop at bytes) ≡ true
  pub whole : line ≡ before_first is_lf (drop at bytes)
  pub behind : drop next bytes ≡ behind_line (drop at bytes)
  pub inside : next ≤ length bytes

-- the result is this table, and the bytes from a place on come after it
abbrev pub IsReadUpTo : Result Reading TableFault → List ℕ → Table → ℕ → Type 0
IsReadUpTo reading bytes table end = (reading ≡ Ok (record { table = table; rest = drop end bytes })) × (end ≤ length bytes)

-- the fault is that of the definition; it is free where memory ran out
abbrev pub IsFaultOf : Result Reading TableFault → TableReadFault → Type 0
IsFaultOf reading (read.Table line cause) = reading ≡ Err (record { line = line; cause = cause_of cause })
IsFaultOf reading read.Memory = Unit {0}

-- the result is that of the definition, unless memory runs out
abbrev pub IsTableRead : List ℕ → Result TableRead TableReadFault → Type 0
IsTableRead bytes result =
    MatchResult result (λ found. IsReadUpTo (read_table bytes) bytes found.table found.end) (λ fault. IsFaultOf (read_table bytes) fault)

-- the place after this table, or the fault of the definition
abbrev pub IsTableEnd : Result Reading TableFault → List ℕ → Table → Result ℕ TableReadFault → Type 0
IsTableEnd reading bytes table result = MatchResult result (λ end. IsReadUpTo reading bytes table end) (λ fault. IsFaultOf reading fault)
