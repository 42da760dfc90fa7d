use Rattle.std.proofs.Common.{◌≡◌, ◌≤◌, true, replicate, take}
use Rattle.subdiv_model.specs.Channel.{entry_bound}
use Rattle.stencil_apply.specs.Table.{entries_of}
use Rattle.stencil_factory.specs.Composing.{AreComposedRows}
use Rattle.stencil_factory.specs.MaskRows.{mask_entries, AreFew}
use Rattle.stencil_factory.proofs.compose.put_rows.Given as goal

-- The table has the rows of the first masks, and all buffers are clear.
abbrev pub invariant-loop-row : goal.invariant-loop-row
invariant-loop-row g l = record {
  clear : g.R.RowMasks.IsClear l.rows l.buffers.mask;
  points : l.buffers.points ≡ replicate (g.R.RowMasks.level l.rows).point_count 0;
  controls : l.buffers.controls ≡ replicate l.table.controls 0;
  counted : l.buffers.counted ≡ true → mask_entries (g.R.RowMasks.level l.rows) l.table (g.R.RowMasks.masks l.rows) ≤ entry_bound;
  few : AreFew (mask_entries (g.R.RowMasks.level l.rows) l.table (g.R.RowMasks.masks l.rows)) (entries_of l.builder.table.rows) l.builder.room_entries;
  same : l.builder.table.controls ≡ l.table.controls;
  done : AreComposedRows (g.R.RowMasks.level l.rows) l.table (take l.row (g.R.RowMasks.masks l.rows)) l.builder.table.rows;
}
