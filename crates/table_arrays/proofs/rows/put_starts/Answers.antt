use Rattle.std.proofs.Common.{◌+◌, ◌<◌, length, arith, ◌∙◌}
use Rattle.std.proofs.lemmas.List.{length-set, drop-set-lt}
use Rattle.table_arrays.proofs.FlatLemmas.{entries-more, entries-fit, starts-more, starts-end}
use Rattle.table_arrays.proofs.rows.put_starts.Goals as goal

pub overflow_add-at : goal.overflow_add-at
overflow_add-at c =
    let inside : c.loop-row.row < length c.args.table.now.rows = omega (arith, c.loop-row-test.true, c.rows-row-end.ensures) in
    let enough = entries-fit c.args.table.now.rows c.loop-row.row c.loop-row.at c.row_len-at.result inside c.loop-row.invariant.at c.row_len-at.ensures in
    record { fits = omega (arith, enough, c.facts.ensures.entries_few) }

pub loop-row-preserved : goal.loop-row-preserved
loop-row-preserved c =
    let rows = c.args.table.now.rows in
    let inside : c.loop-row.row < length rows = omega (arith, c.loop-row-test.true, c.rows-row-end.ensures) in
    let there : c.loop-row.row < length c.loop-row.out = omega (arith, inside, c.requires.fits, c.loop-row.invariant.len) in record {
      at = entries-more rows c.loop-row.row c.loop-row.at c.row_len-at.result inside c.loop-row.invariant.at c.row_len-at.ensures;
      written = starts-more rows c.loop-row.out c.loop-row.row c.loop-row.at (omega (arith, inside)) there c.loop-row.invariant.at c.loop-row.invariant.written;
      rest = drop-set-lt (length rows + 1) c.loop-row.out c.loop-row.row c.loop-row.at (omega (arith, inside)) ∙ c.loop-row.invariant.rest;
      len = length-set c.loop-row.out c.loop-row.row c.loop-row.at ∙ c.loop-row.invariant.len;
    }

pub returns-clause-written : goal.returns-clause-written
returns-clause-written c =
    starts-end c.args.table.now.rows c.loop-row.out c.loop-row.row c.rows.result c.loop-row.at
    (omega (arith, c.requires.fits, c.loop-row.invariant.len)) (omega (arith, c.loop-row-test.false, c.loop-row.auto.row-end, c.rows-row-end.ensures))
    c.rows.ensures c.loop-row.invariant.at c.loop-row.invariant.written

pub returns-clause-rest : goal.returns-clause-rest
returns-clause-rest c =
    drop-set-lt (length c.args.table.now.rows + 1) c.loop-row.out c.rows.result c.loop-row.at (omega (arith, c.rows.ensures)) ∙ c.loop-row.invariant.rest
