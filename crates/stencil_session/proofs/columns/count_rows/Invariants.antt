use Rattle.stencil_session.specs.Columns.{AreCounts, cells_before}
use Rattle.stencil_session.proofs.columns.count_rows.Given as goal

-- the entries of the rows before this one are counted
abbrev pub invariant-loop-row : goal.invariant-loop-row
invariant-loop-row l = AreCounts l.table.controls (cells_before l.table l.row) l.counts.items
