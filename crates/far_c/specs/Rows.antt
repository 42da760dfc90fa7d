-- The record of each fault of rows in arrays.
use Rattle.row_arrays.specs.declared.rows.RowFault.{RowFault}
use Rattle.row_arrays.specs.declared.rows.RowFault.TheVariants.{Range, Short, Row, Overflow}
use Rattle.array_answers.specs.ArrayRecords.{row}
use Rattle.array_answers.specs.declared.record.FaultRecord.{FaultRecord}

-- status, kind and first number; a row is counted from 0
abbrev pub record_of_row_fault : RowFault → FaultRecord
record_of_row_fault Range = row 19 1 0 0
record_of_row_fault Short = row 1 0 0 0
record_of_row_fault (Row number) = row 17 17 number 0
record_of_row_fault (Overflow number) = row 8 16 number 0
