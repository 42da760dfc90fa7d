use Rattle.std.proofs.Common.{rules}
use Rattle.primvar_refine.proofs.bound.sum_width.Goals as goal

-- proved by name, so that the prover refuses a body that breaks it at once
pub returns-in-Some : goal.returns-in-Some
returns-in-Some c = search rules

pub returns-in-None : goal.returns-in-None
returns-in-None c = search rules
