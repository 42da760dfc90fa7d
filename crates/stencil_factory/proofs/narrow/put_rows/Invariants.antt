use Rattle.std.proofs.Common.{◌≡◌, ◌+◌, ◌^◌, ◌≤◌, replicate, take}
use Rattle.stencil_apply.specs.Table.{entries_of}
use Rattle.stencil_factory.specs.Composing.{AreComposedRows}
use Rattle.stencil_factory.proofs.narrow.put_rows.Given as goal

-- The table has the rows of the first masks, and at most 2^27 entries including its spare capacity.
abbrev pub invariant-loop-row : goal.invariant-loop-row
invariant-loop-row g l = record {
  clear : l.buffers.controls ≡ replicate l.table.controls 0;
  same : l.builder.table.controls ≡ l.table.controls;
  few : entries_of l.builder.table.rows + l.builder.room_entries ≤ 2 ^ 27;
  done : AreComposedRows (g.M.PointMasks.level l.masks) l.table (take l.row (g.M.PointMasks.masks l.masks)) l.builder.table.rows;
}
