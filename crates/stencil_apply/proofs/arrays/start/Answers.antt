use Rattle.std.proofs.Common.{rules}
use Rattle.stencil_apply.proofs.arrays.start.Goals as goal

-- proved by name, so that the prover refuses a body that breaks it at once
pub returns-else-row-eq0 : goal.returns-else-row-eq0
returns-else-row-eq0 c = search rules
