use Rattle.std.proofs.Common.{rules}
use Rattle.level_walk.proofs.counts.LevelCounts.of.Goals as goal

-- proved by name, so that the prover refuses a body that breaks it at once
pub returns : goal.returns
returns c = search rules
