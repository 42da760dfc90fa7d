use Rattle.std.proofs.Common.{rules}
use Rattle.child_slots.proofs.halves.half_of.Goals as goal

-- proved by name, so that the prover refuses a body that breaks it at once
pub returns-in-Ok : goal.returns-in-Ok
returns-in-Ok c = search rules
