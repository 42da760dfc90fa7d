use Rattle.std.proofs.Common.{◌+◌, ◌<◌, arith, length}
use Rattle.subdiv_model.specs.Support.{source_support}
use Rattle.stencil_factory.specs.Rows.{supports_of}
use Rattle.stencil_factory.specs.MaskRows.{mask_at}
use Rattle.stencil_factory.proofs.ComposedLemmas.{entries-less, entries-more}
use Rattle.stencil_factory.proofs.MarkLemmas.{support-few}
use Rattle.stencil_factory.proofs.count.count_entries.Goals as goal

pub overflow_add-count : goal.overflow_add-count
overflow_add-count g c =
    let table = c.args.table.now in
    let masks = g.R.RowMasks.masks c.args.rows.now in
    let few = support-few table.controls (source_support table.controls (g.R.RowMasks.level c.args.rows.now) (supports_of table)) (mask_at masks c.loop-row.row) in
    record { fits = omega (arith, c.loop-row.invariant.few, few, c.in_ok-count.ensures.count, c.facts.ensures.controls_few) }

pub returns-then-count-gt-ENTRY_BOUND : goal.returns-then-count-gt-ENTRY_BOUND
returns-then-count-gt-ENTRY_BOUND g c =
    let level = g.R.RowMasks.level c.args.rows.now in
    let masks = g.R.RowMasks.masks c.args.rows.now in
    let below : c.loop-row.row < length masks = omega (arith, c.loop-row-test.true, c.count-row-end.ensures.count) in
    omega (arith, entries-less level c.args.table.now masks (c.loop-row.row + 1), entries-more level c.args.table.now masks c.loop-row.row below, c.loop-row.invariant.counted, c.in_ok-count.ensures.count, c.if-count-gt-ENTRY_BOUND.true)

pub loop-row-preserved : goal.loop-row-preserved
loop-row-preserved g c =
    let level = g.R.RowMasks.level c.args.rows.now in
    let masks = g.R.RowMasks.masks c.args.rows.now in
    let below : c.loop-row.row < length masks = omega (arith, c.loop-row-test.true, c.count-row-end.ensures.count) in
    record {
      clear = c.in_ok-count.ensures.clear;
      points = c.in_ok-count.ensures.points;
      round = omega (arith, c.in_ok-count.ensures.round);
      marks = c.in_ok-count.ensures.marks;
      counted = omega (arith, entries-more level c.args.table.now masks c.loop-row.row below, c.loop-row.invariant.counted, c.in_ok-count.ensures.count);
      few = c.if-count-gt-ENTRY_BOUND.false;
    }
