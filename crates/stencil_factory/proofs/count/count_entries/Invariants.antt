use Rattle.std.proofs.Common.{◌≡◌, ◌+◌, ◌≤◌, take}
use Rattle.subdiv_model.specs.Channel.{entry_bound}
use Rattle.stencil_factory.specs.Marks.{AreMarks}
use Rattle.stencil_factory.specs.MaskRows.{mask_entries}
use Rattle.stencil_factory.proofs.count.count_entries.Given as goal

-- `count` is the number of entries of the first `row` rows.
abbrev pub invariant-loop-row : goal.invariant-loop-row
invariant-loop-row g l = record {
  clear : g.R.RowMasks.IsClear l.rows l.buffers.mask;
  points : l.buffers.points.count ≡ (g.R.RowMasks.level l.rows).point_count;
  round : l.buffers.points.mark ≡ l.row + 1;
  marks : AreMarks l.table.controls l.row l.buffers.marks.items;
  counted : l.count ≡ mask_entries (g.R.RowMasks.level l.rows) l.table (take l.row (g.R.RowMasks.masks l.rows));
  few : l.count ≤ entry_bound;
}
