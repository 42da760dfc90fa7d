use Rattle.std.proofs.Common.{◌∙◌}
use Rattle.stencil_session.proofs.ColumnLemmas.{column-inside, column-rows}
use Rattle.stencil_session.proofs.columns.Columns.rows.Goals as goal

pub rows_of-requires-clause-inside : goal.rows_of-requires-clause-inside
rows_of-requires-clause-inside c = column-inside _ c.self.invariant _ c.self.view_is c.args.control c.requires

pub returns : goal.returns
returns c = c.rows_of.ensures ∙ column-rows _ c.self.invariant _ c.self.view_is c.args.control c.requires
