use Rattle.std.proofs.Common.{rules}
use Rattle.mesh_check.proofs.holes.is_hole.Goals as goal

-- proved by name, so that the prover refuses a body that breaks it at once
pub returns-else-is_marked : goal.returns-else-is_marked
returns-else-is_marked c = search rules
