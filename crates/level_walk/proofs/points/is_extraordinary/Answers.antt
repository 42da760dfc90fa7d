use Rattle.std.proofs.Common.{rules}
use Rattle.level_walk.proofs.points.is_extraordinary.Goals as goal

-- proved by name, so that the prover refuses a body that breaks it at once
pub returns-then-is_used : goal.returns-then-is_used
returns-then-is_used c = search rules
