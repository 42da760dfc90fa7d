use Rattle.std.proofs.lemmas.Grind.{common_steps}
use Rattle.std.proofs.Common.{arith}
use Rattle.stencil_factory.proofs.count.put_mark.Goals as goal

-- The proof is given here by name, so that a wrong body is refused at once.
pub returns-clause-fresh : goal.returns-clause-fresh
returns-clause-fresh c = grind (arith, common_steps)
