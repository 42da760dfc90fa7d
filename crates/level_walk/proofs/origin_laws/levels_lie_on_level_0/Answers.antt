use Rattle.level_walk.proofs.OriginLawLemmas.{origins-each, origins-parts}
use Rattle.level_walk.proofs.origin_laws.levels_lie_on_level_0.Goals as goal

pub returns-clause-each : goal.returns-clause-each
returns-clause-each c = origins-each

pub returns-clause-parts : goal.returns-clause-parts
returns-clause-parts c = origins-parts
