use Rattle.std.proofs.Common.{◌+◌, ◌<◌, ◌≤◌, length, take, map, arith, ap, sym, ◌∙◌}
use Rattle.std.proofs.lemmas.List.{length-map, take_all}
use Rattle.stencil_apply.specs.Table.{Share, entries_of, row_at}
use Rattle.table_arrays.specs.Flat.{indices_of}
use Rattle.flat_arrays.proofs.PartLemmas.{pieces-more, rest-later}
use Rattle.table_arrays.proofs.FlatLemmas.{blank, entries-more, entries-fit, entries-all}
use Rattle.table_arrays.proofs.rows.put_indices.Goals as goal

pub put_items-requires : goal.put_items-requires
put_items-requires c =
    let inside : c.loop-row.row < length c.args.table.now.rows = omega (arith, c.loop-row-test.true, c.rows-row-end.ensures) in
    let count = ap length c.row_indices-indices.ensures.indices ∙ length-map (row_at c.args.table.now c.loop-row.row).shares (λ (share : Share). share.0) in
    let enough = entries-fit c.args.table.now.rows c.loop-row.row c.loop-row.at (length c.row_indices-indices.result.now) inside c.loop-row.invariant.at count in
    record { fits = omega (arith, enough, c.requires.fits, c.loop-row.invariant.len) }

pub loop-row-preserved : goal.loop-row-preserved
loop-row-preserved c =
    let rows = c.args.table.now.rows in
    let indices = c.row_indices-indices.result.now in
    let inside : c.loop-row.row < length rows = omega (arith, c.loop-row-test.true, c.rows-row-end.ensures) in
    let count = ap length c.row_indices-indices.ensures.indices ∙ length-map (row_at c.args.table.now c.loop-row.row).shares (λ (share : Share). share.0) in
    let enough = entries-fit rows c.loop-row.row c.loop-row.at (length indices) inside c.loop-row.invariant.at count in record {
      at = entries-more rows c.loop-row.row c.loop-row.at (length indices) inside c.loop-row.invariant.at count;
      written = pieces-more (λ row. map (λ share. share.0) row.shares) rows c.loop-row.row blank (take c.loop-row.at c.loop-row.out) indices _ inside
          c.loop-row.invariant.written c.row_indices-indices.ensures.indices c.put_items.ensures.written;
      rest = rest-later (c.loop-row.at + length indices) (entries_of rows) c.put_items.new.out c.loop-row.out c.args.out.now enough c.put_items.ensures.rest c.loop-row.invariant.rest;
      len = c.put_items.ensures.len ∙ c.loop-row.invariant.len;
    }

pub returns-clause-written : goal.returns-clause-written
returns-clause-written c =
    let end : length c.args.table.now.rows ≤ c.loop-row.row = omega (arith, c.loop-row-test.false, c.rows-row-end.ensures) in
    let all = entries-all c.args.table.now.rows c.loop-row.row c.loop-row.at end c.loop-row.invariant.at in
    ap (λ n. take n c.loop-row.out) (sym all) ∙ c.loop-row.invariant.written ∙ ap indices_of (take_all c.loop-row.row c.args.table.now.rows end)
