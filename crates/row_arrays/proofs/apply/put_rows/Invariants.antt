use Rattle.std.proofs.Common.{◌≡◌, ◌+◌, ◌-◌, ◌*◌, ◌≤◌, ◌++◌, length, map, take, drop}
use Rattle.std.specs.List.{range_with_len}
use Rattle.flat_arrays.specs.Words.{integer_of}
use Rattle.row_arrays.specs.Rows.{first_row_fault, rows_of, sums_of_rows}
use Rattle.row_arrays.proofs.apply.put_rows.Given as goal

-- the sums of the rows before this one are written, and none of them has a fault
abbrev pub invariant-loop-row : goal.invariant-loop-row
invariant-loop-row l = record {
  fault : first_row_fault l.rows l.controls (range_with_len l.row (l.range.to - l.row)) ≡ first_row_fault l.rows l.controls (rows_of l.range);
  sums : map integer_of (take l.at l.out) ++ sums_of_rows l.rows l.controls (range_with_len l.row (l.range.to - l.row)) ≡ sums_of_rows l.rows l.controls (rows_of l.range);
  rest : drop l.at l.out ≡ drop l.at l.fn.out;
  enough : l.at + (l.range.to - l.row) * l.width ≤ length l.out;
  len : length l.out ≡ length l.fn.out;
}
