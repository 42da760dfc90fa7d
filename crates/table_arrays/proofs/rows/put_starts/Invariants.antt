use Rattle.std.proofs.Common.{◌≡◌, ◌+◌, length, take, drop}
use Rattle.stencil_apply.specs.Table.{entries_of}
use Rattle.table_arrays.specs.Flat.{row_starts}
use Rattle.table_arrays.proofs.rows.put_starts.Given as goal

-- the starts of the rows so far
abbrev pub invariant-loop-row : goal.invariant-loop-row
invariant-loop-row l = record {
  at : l.at ≡ entries_of (take l.row l.table.rows);
  written : take l.row l.out ≡ take l.row (row_starts l.table.rows);
  rest : drop (length l.table.rows + 1) l.out ≡ drop (length l.table.rows + 1) l.fn.out;
  len : length l.out ≡ length l.fn.out;
}
