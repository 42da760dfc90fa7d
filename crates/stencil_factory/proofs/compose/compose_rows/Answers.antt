use Rattle.std.proofs.Common.{rules}
use Rattle.stencil_factory.proofs.WidthLemmas.{width-has-all}
use Rattle.stencil_factory.proofs.compose.compose_rows.Goals as goal

-- The proof is given here by name, so that a wrong body is refused at once.
pub put_rows_in-requires-clause-fits : goal.put_rows_in-requires-clause-fits
put_rows_in-requires-clause-fits g c = let short = c.requires.dens.short in search (rules, width-has-all, short)
