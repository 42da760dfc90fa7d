use Rattle.std.proofs.Common.{◌≡◌, ◌++◌, take}
use Rattle.stencil_apply.specs.Table.{row_at}
use Rattle.stencil_session.specs.Columns.{ArePut, cells_before, cells_of, cells_from}
use Rattle.stencil_session.proofs.columns.put_row.Given as goal

-- the entries before this one are put
abbrev pub invariant-loop-at : goal.invariant-loop-at
invariant-loop-at l = record {
  put : ArePut l.table.controls (cells_from 0 l.table.rows) (cells_before l.table l.row ++ take l.at (cells_of l.row (row_at l.table l.row))) l.parts;
  width : l.parts.numerators.width ≡ l.fn.parts.numerators.width;
}
