use Rattle.std.proofs.Common.{rules}
use Rattle.ratio128.proofs.multiple.times_within.Goals as goal

-- the answer names its goal, so that the prover refuses a wrong body at once
pub returns-clause-passed : goal.returns-clause-passed
returns-clause-passed c = search rules
