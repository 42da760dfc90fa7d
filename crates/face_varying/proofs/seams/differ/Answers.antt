use Rattle.std.proofs.Common.{rules}
use Rattle.face_varying.proofs.seams.differ.Goals as goal

-- proved by name, so that the prover refuses a body that breaks it at once
pub returns-then-pair-other : goal.returns-then-pair-other
returns-then-pair-other c = search rules

pub returns-else-pair-other : goal.returns-else-pair-other
returns-else-pair-other c = search rules
