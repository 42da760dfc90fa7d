use Rattle.level_walk.proofs.OriginLawLemmas.{own-points}
use Rattle.level_walk.proofs.origin_laws.points_of_level_0_stay.Goals as goal

pub returns : goal.returns
returns c = own-points
