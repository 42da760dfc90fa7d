use Rattle.std.proofs.Common.{◌≡◌, length, take, drop}
use Rattle.stencil_apply.specs.Table.{entries_of}
use Rattle.table_arrays.specs.Flat.{indices_of}
use Rattle.table_arrays.proofs.rows.put_indices.Given as goal

-- the control points of the rows so far
abbrev pub invariant-loop-row : goal.invariant-loop-row
invariant-loop-row l = record {
  at : l.at ≡ entries_of (take l.row l.table.rows);
  written : take l.at l.out ≡ indices_of (take l.row l.table.rows);
  rest : drop (entries_of l.table.rows) l.out ≡ drop (entries_of l.table.rows) l.fn.out;
  len : length l.out ≡ length l.fn.out;
}
