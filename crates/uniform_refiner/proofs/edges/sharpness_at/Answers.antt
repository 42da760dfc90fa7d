use Rattle.std.proofs.lemmas.Grind.{common_steps}
use Rattle.std.proofs.Common.{arith}
use Rattle.uniform_refiner.proofs.edges.sharpness_at.Goals as goal

-- proved by name, so that the prover refuses a body that breaks it at once
pub returns-else-slot-halves : goal.returns-else-slot-halves
returns-else-slot-halves c = grind (arith, common_steps)
