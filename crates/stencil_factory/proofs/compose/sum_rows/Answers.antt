use Rattle.std.proofs.Common.{rules}
use Rattle.stencil_factory.proofs.compose.sum_rows.Goals as goal

-- The proof is given here by name, so that a wrong body is refused at once.
pub returns-clause-entries : goal.returns-clause-entries
returns-clause-entries g c = search rules
