-- The table of a text, or the record of the text's fault.
use Rattle.std.specs.Prelude.{ℕ, ◌≡◌, ◌≤◌, ◌^◌, ◌⊎◌, nat_lt, List, length, Option, Some, None, Result, Ok, Err, MatchResult, if◌then◌else◌}
use Rattle.subdiv_model.specs.Fault.{Fault, Long, Table, Memory}
use Rattle.subdiv_model.specs.ReadTable.{Reading, read_table}
use Rattle.subdiv_model.specs.TableFault.{TableFault}
use Rattle.table_file.specs.Read.{TableRead, IsReadUpTo}
use Rattle.array_answers.specs.RecordBack.{IsRecordOf}
use Rattle.array_answers.specs.declared.record.FaultRecord.{FaultRecord}

-- the record is that of the fault, or of no memory
pub record IsRefusedFor (refusal : Option Fault) (found : FaultRecord) : Type 0 where
  pub fault : Fault
  pub is : (refusal ≡ Some fault) ⊎ (fault ≡ Memory)
  pub recorded : IsRecordOf found fault

-- the greatest number of bytes of a text
abbrev pub text_limit : ℕ
text_limit = 2 ^ 28

-- the faults of a text that begins with a table: it is too long, or a line is bad
abbrev pub reading_refusal : Result Reading TableFault → Option Fault
reading_refusal (Ok reading) = None
reading_refusal (Err fault) = Some (Table fault)

-- the fault of a text that begins with a table, or none
abbrev pub read_refusal : List ℕ → Option Fault
read_refusal text = if nat_lt text_limit (length text) then Some Long else reading_refusal (read_table text)

-- the text is not too long, and begins with the text of this table, which has this number of bytes
pub record IsReadOf (text : List ℕ) (read : TableRead) : Type 0 where
  pub short : length text ≤ text_limit
  pub table : IsReadUpTo (read_table text) text read.table read.end

-- the table of the text, or the record of the text's fault
abbrev pub IsReadStored : List ℕ → Result TableRead FaultRecord → Type 0
IsReadStored text result = MatchResult result (IsReadOf text) (IsRefusedFor (read_refusal text))
