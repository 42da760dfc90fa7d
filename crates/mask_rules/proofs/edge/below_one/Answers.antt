use Rattle.std.proofs.Common.{rules}
use Rattle.mask_rules.proofs.edge.below_one.Goals as goal

-- proved by name, so that the prover refuses a body that breaks it at once
pub returns-in-Infinite : goal.returns-in-Infinite
returns-in-Infinite c = search rules

pub returns-then-num-den : goal.returns-then-num-den
returns-then-num-den c = search rules
