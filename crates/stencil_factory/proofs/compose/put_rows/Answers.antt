use Rattle.std.proofs.Common.{◌≤◌, arith, length}
use Rattle.stencil_factory.proofs.ComposedLemmas.{are-rows}
use Rattle.stencil_factory.proofs.compose.put_rows.Goals as goal

pub returns : goal.returns
returns g c =
    let masks = g.R.RowMasks.masks c.args.rows.now in
    let past : length masks ≤ c.loop-row.row = omega (arith, c.loop-row-test.false, c.count-row-end.ensures.count) in
    record {
      rows = λ all. are-rows (g.R.RowMasks.level c.args.rows.now) c.args.table.now masks c.loop-row.row c.loop-row.builder.table past c.loop-row.invariant.same c.loop-row.invariant.done;
      many = λ none. absurd (cc);
    }
