use Rattle.std.proofs.Common.{◌≤◌, ◌+◌, ◌^◌, [], arith, sym, ap, subst, length}
use Rattle.stencil_apply.specs.Table.{Table, entries_of}
use Rattle.stencil_factory.specs.Composing.{AreComposedRows}
use Rattle.stencil_factory.proofs.ComposedLemmas.{are-rows}
use Rattle.stencil_factory.proofs.narrow.put_rows.Goals as goal

pub loop-row-init : goal.loop-row-init
loop-row-init g c = record {
  clear = c.requires.clear;
  same = ap (λ (t : Table). t.controls) c.requires.none;
  few = subst (λ (t : Table). entries_of t.rows + c.args.builder.now.room_entries ≤ 2 ^ 27) (sym c.requires.none) (omega (arith, c.requires.few));
  done = subst (λ (t : Table). AreComposedRows (g.M.PointMasks.level c.args.masks.now) c.args.table.now [] t.rows) (sym c.requires.none) tt;
}

pub returns : goal.returns
returns g c put =
    let masks = g.M.PointMasks.masks c.args.masks.now in
    let past : length masks ≤ c.loop-row.row = omega (arith, c.loop-row-test.false, c.count-row-end.ensures.count) in
    are-rows (g.M.PointMasks.level c.args.masks.now) c.args.table.now masks c.loop-row.row c.loop-row.builder.table past c.loop-row.invariant.same c.loop-row.invariant.done
