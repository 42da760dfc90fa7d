use Rattle.std.proofs.Common.{◌≡◌}
use Rattle.stencil_session.specs.Columns.{ArePut, cells_before, cells_from}
use Rattle.stencil_session.proofs.columns.put_rows.Given as goal

-- the entries of the rows before this one are put
abbrev pub invariant-loop-row : goal.invariant-loop-row
invariant-loop-row l = record {
  put : ArePut l.table.controls (cells_from 0 l.table.rows) (cells_before l.table l.row) l.parts;
  width : l.parts.numerators.width ≡ l.fn.parts.numerators.width;
}
