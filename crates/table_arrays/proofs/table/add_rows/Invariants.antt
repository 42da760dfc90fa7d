use Rattle.table_arrays.specs.Built.{AreFirstRows}
use Rattle.table_arrays.proofs.table.add_rows.Given as goal

-- the rows so far
abbrev pub invariant-loop-r : goal.invariant-loop-r
invariant-loop-r l = AreFirstRows l.rows l.r l.added.builder.table
