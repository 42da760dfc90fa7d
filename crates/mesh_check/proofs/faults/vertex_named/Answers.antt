use Rattle.std.proofs.Common.{rules}
use Rattle.mesh_check.proofs.faults.vertex_named.Goals as goal

-- proved by name, so that the prover refuses a body that breaks it at once
pub returns-in-Some : goal.returns-in-Some
returns-in-Some c = search rules
