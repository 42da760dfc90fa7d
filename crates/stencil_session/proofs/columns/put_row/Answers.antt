use Rattle.std.proofs.Common.{◌∙◌, subst}
use Rattle.stencil_session.specs.Columns.{ArePut, cells_from}
use Rattle.stencil_session.proofs.CellLemmas.{row-done}
use Rattle.stencil_session.proofs.PutLemmas.{put-control, put-row, put-numerator, put-short, put-small, put-more}
use Rattle.stencil_session.proofs.columns.put_row.Goals as goal

pub put-requires-clause-control : goal.put-requires-clause-control
put-requires-clause-control c =
    put-control c.args.table.now c.facts.ensures c.args.row c.requires.row _ c.row_indices-controls.ensures.indices c.loop-at.at c.loop-at-test.true
    _ c.row_numerators-numerators.ensures c.loop-at.parts c.loop-at.invariant.put

pub put-requires-clause-row : goal.put-requires-clause-row
put-requires-clause-row c =
    put-row c.args.table.now c.facts.ensures c.args.row c.requires.row _ c.row_indices-controls.ensures.indices c.loop-at.at c.loop-at-test.true
    _ c.row_numerators-numerators.ensures c.loop-at.parts c.loop-at.invariant.put

pub put-requires-clause-numerator : goal.put-requires-clause-numerator
put-requires-clause-numerator c =
    put-numerator c.args.table.now c.facts.ensures c.args.row c.requires.row _ c.row_indices-controls.ensures.indices c.loop-at.at c.loop-at-test.true
    _ c.row_numerators-numerators.ensures c.loop-at.parts c.loop-at.invariant.put

pub put-requires-clause-short : goal.put-requires-clause-short
put-requires-clause-short c =
    put-short c.args.table.now c.facts.ensures c.args.row c.requires.row _ c.row_indices-controls.ensures.indices c.loop-at.at c.loop-at-test.true
    _ c.row_numerators-numerators.ensures c.loop-at.parts c.loop-at.invariant.put

pub put-requires-clause-small : goal.put-requires-clause-small
put-requires-clause-small c =
    put-small c.args.table.now c.facts.ensures c.args.row c.requires.row _ c.row_indices-controls.ensures.indices c.loop-at.at c.loop-at-test.true
    _ c.row_numerators-numerators.ensures c.loop-at.parts c.loop-at.invariant.put
    c.get.result c.get.ensures _ (c.loop-at.invariant.width ∙ c.requires.width)

pub loop-at-preserved : goal.loop-at-preserved
loop-at-preserved c = record {
  put = put-more c.args.table.now c.facts.ensures c.args.row c.requires.row _ c.row_indices-controls.ensures.indices c.loop-at.at c.loop-at-test.true
      _ c.row_numerators-numerators.ensures c.loop-at.parts c.loop-at.invariant.put
      c.get.result c.get.ensures c.put.new.self c.put.ensures.ends c.put.ensures.rows c.put.ensures.numerators;
  width = c.put.ensures.width ∙ c.loop-at.invariant.width;
}

pub returns-clause-put : goal.returns-clause-put
returns-clause-put c =
    subst (λ cells. ArePut c.args.table.now.controls (cells_from 0 c.args.table.now.rows) cells c.loop-at.parts)
    (row-done c.args.table.now c.args.row c.requires.row _ c.row_indices-controls.ensures.indices c.loop-at.at c.loop-at-test.false) c.loop-at.invariant.put
