use Rattle.std.proofs.Common.{rules}
use Rattle.sparse_refiner.proofs.points.child_of_vertex.Goals as goal

-- proved by name, so that the prover refuses a body that breaks it at once
pub returns : goal.returns
returns c = search rules
