use Rattle.std.proofs.Common.{rules}
use Rattle.level_walk.proofs.round.next.Goals as goal

pub returns-clause-made : goal.returns-clause-made
returns-clause-made g c = search rules
