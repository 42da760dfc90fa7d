use Rattle.std.proofs.Common.{rules}
use Rattle.child_masks.proofs.transition.least_refused.Goals as goal

-- proved by name, so that the prover refuses a body that breaks it at once
pub loop-v-init : goal.loop-v-init
loop-v-init c = search rules
