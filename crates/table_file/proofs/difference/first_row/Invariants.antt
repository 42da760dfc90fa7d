use Rattle.std.proofs.Common.{◌≡◌, ◌≤◌, drop}
use Rattle.far_model.specs.Stored.{row_difference}
use Rattle.table_file.proofs.difference.first_row.Given as goal

-- the rows so far are the same
abbrev pub invariant-loop-row : goal.invariant-loop-row
invariant-loop-row l = record {
  same : row_difference l.row (drop l.row l.a.rows) (drop l.row l.b.rows) ≡ row_difference 0 l.a.rows l.b.rows;
  few : l.row ≤ l.both;
}
