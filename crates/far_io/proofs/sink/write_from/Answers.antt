use Rattle.std.proofs.lemmas.Grind.{common_steps}
use Rattle.std.proofs.Common.{arith}
use Rattle.far_io.proofs.sink.write_from.Goals as goal

-- asked for by name, so that a body that breaks it is refused at once
pub returns-clause-added : goal.returns-clause-added
returns-clause-added g c = grind (arith, common_steps)
