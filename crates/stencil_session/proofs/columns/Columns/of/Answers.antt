use Rattle.stencil_session.proofs.ColumnLemmas.{are-packed, columns-are}
use Rattle.stencil_session.proofs.columns.Columns.of.Goals as goal

pub invariant_of-result : goal.invariant_of-result
invariant_of-result c = are-packed c.args.table.now c.facts.ensures _ c.fill.ensures

pub returns : goal.returns
returns c = columns-are c.args.table.now c.facts.ensures _ c.fill.ensures
