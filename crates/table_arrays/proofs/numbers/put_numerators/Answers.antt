use Rattle.std.proofs.Common.{◌+◌, ◌<◌, ◌≤◌, length, map, take, arith, ap, sym, ◌∙◌}
use Rattle.std.proofs.lemmas.List.{take_all}
use Rattle.flat_arrays.specs.Words.{natural_of}
use Rattle.stencil_apply.specs.Table.{entries_of}
use Rattle.table_arrays.specs.Flat.{numerators_of}
use Rattle.flat_arrays.proofs.PartLemmas.{part-rest, part-length}
use Rattle.table_arrays.proofs.FlatLemmas.{entries-more, entries-fit, entries-all}
use Rattle.table_arrays.proofs.NumberLemmas.{numerators-more}
use Rattle.table_arrays.proofs.numbers.put_numerators.Goals as goal

pub loop-row-preserved : goal.loop-row-preserved
loop-row-preserved c =
    let rows = c.args.table.now.rows in
    let at = c.loop-row.at in
    let len = c.row_len-len.result in
    let part = c.fill_numerators.new.out in
    let inside : c.loop-row.row < length rows = omega (arith, c.loop-row-test.true, c.rows-row-end.ensures) in
    let enough = entries-fit rows c.loop-row.row at len inside c.loop-row.invariant.at c.row_len-len.ensures in
    let fits : at + len ≤ length c.loop-row.out = omega (arith, enough, c.requires.fits, c.loop-row.invariant.len) in
    let short = c.fill_numerators.ensures.len ∙ sym c.row_len-len.ensures in record {
      at = entries-more rows c.loop-row.row at len inside c.loop-row.invariant.at c.row_len-len.ensures;
      written = numerators-more rows c.loop-row.row at len c.loop-row.out part inside fits short c.loop-row.invariant.written c.fill_numerators.ensures.words;
      rest = part-rest (entries_of rows) at len c.loop-row.out part c.args.out.now fits enough short c.loop-row.invariant.rest;
      len = part-length at len c.loop-row.out part fits short ∙ c.loop-row.invariant.len;
    }

pub returns-clause-written : goal.returns-clause-written
returns-clause-written c =
    let end : length c.args.table.now.rows ≤ c.loop-row.row = omega (arith, c.loop-row-test.false, c.rows-row-end.ensures) in
    let all = entries-all c.args.table.now.rows c.loop-row.row c.loop-row.at end c.loop-row.invariant.at in
    ap (λ n. map natural_of (take n c.loop-row.out)) (sym all) ∙ c.loop-row.invariant.written ∙ ap numerators_of (take_all c.loop-row.row c.args.table.now.rows end)
