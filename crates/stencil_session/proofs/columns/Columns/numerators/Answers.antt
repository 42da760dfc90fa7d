use Rattle.std.proofs.Common.{◌∙◌}
use Rattle.stencil_session.proofs.ColumnLemmas.{column-inside, column-numerators}
use Rattle.stencil_session.proofs.columns.Columns.numerators.Goals as goal

pub numerators_of-requires-clause-inside : goal.numerators_of-requires-clause-inside
numerators_of-requires-clause-inside c = column-inside _ c.self.invariant _ c.self.view_is c.args.control c.requires

pub returns : goal.returns
returns c = c.numerators_of.ensures ∙ column-numerators _ c.self.invariant _ c.self.view_is c.args.control c.requires
