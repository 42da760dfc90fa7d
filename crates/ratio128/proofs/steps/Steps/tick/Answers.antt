use Rattle.std.proofs.Common.{rules}
use Rattle.ratio128.proofs.steps.Steps.tick.Goals as goal

-- the answer names its goal, so that the prover refuses a wrong body at once
pub returns : goal.returns
returns g c = search rules
