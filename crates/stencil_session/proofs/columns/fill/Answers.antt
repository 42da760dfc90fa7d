use Rattle.stencil_session.proofs.ColumnLemmas.{begin-few, begun}
use Rattle.stencil_session.proofs.columns.fill.Goals as goal

pub begin_columns-requires : goal.begin_columns-requires
begin_columns-requires c = begin-few c.args.table.now c.facts.ensures _ c.count_rows.ensures

pub put_rows-requires-clause-empty : goal.put_rows-requires-clause-empty
put_rows-requires-clause-empty c =
    begun c.args.table.now c.facts.ensures _ c.count_rows.ensures _ c.begin_columns.ensures.long c.requires.rows c.requires.numerators c.begin_columns.ensures.begins
