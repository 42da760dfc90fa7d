use Rattle.std.proofs.lemmas.Grind.{common_steps}
use Rattle.std.proofs.Common.{arith}
use Rattle.sparse_refiner.proofs.faces.part_corners.Goals as goal

-- proved by name, so that the prover refuses a body that breaks it at once
pub returns : goal.returns
returns g c = grind (arith, common_steps)
