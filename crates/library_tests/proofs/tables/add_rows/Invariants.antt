use Rattle.std.proofs.Common.{◌≡◌, ◌*◌, ◌≤◌, length}
use Rattle.stencil_apply.specs.Table.{entries_of}
use Rattle.library_tests.proofs.tables.add_rows.Given as goal

-- there is a row for each round, of at most 100 entries
abbrev pub invariant-loop-row : goal.invariant-loop-row
invariant-loop-row g l = record {
  controls : l.builder.table.controls ≡ l.controls;
  rows : length l.builder.table.rows ≡ l.row-index;
  entries : entries_of l.builder.table.rows ≤ l.row-index * 100;
}
