use Rattle.std.proofs.Common.{rules}
use Rattle.mask_rules.proofs.ring.is_same_mask.Goals as goal

-- proved by name, so that the prover refuses a body that breaks it at once
pub returns-in-Corner-matches : goal.returns-in-Corner-matches
returns-in-Corner-matches c = search rules
