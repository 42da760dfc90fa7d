use Rattle.std.proofs.Common.{◌++◌, take}
use Rattle.stencil_apply.specs.Table.{row_at}
use Rattle.stencil_session.specs.Columns.{AreCounts, cells_before, cells_of}
use Rattle.stencil_session.proofs.columns.count_row.Given as goal

-- the entries before this one are counted
abbrev pub invariant-loop-control : goal.invariant-loop-control
invariant-loop-control l =
    AreCounts l.table.controls (cells_before l.table l.row ++ take l.control-index (cells_of l.row (row_at l.table l.row))) l.counts.items
