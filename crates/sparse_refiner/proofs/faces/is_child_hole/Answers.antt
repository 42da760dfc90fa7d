use Rattle.std.proofs.Common.{rules}
use Rattle.sparse_refiner.proofs.faces.is_child_hole.Goals as goal

-- proved by name, so that the prover refuses a body that breaks it at once
pub returns : goal.returns
returns c = search rules
