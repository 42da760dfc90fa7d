use Rattle.std.proofs.Common.{rules}
use Rattle.mask_rules.proofs.transition.weighed.Goals as goal

-- proved by name, so that the prover refuses a body that breaks it at once
pub returns-else-weight-clause-mask : goal.returns-else-weight-clause-mask
returns-else-weight-clause-mask c = search rules

pub returns-then-weight-clause-mask : goal.returns-then-weight-clause-mask
returns-then-weight-clause-mask c = search rules
