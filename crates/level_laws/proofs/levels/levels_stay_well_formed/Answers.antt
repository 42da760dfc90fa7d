use Rattle.level_laws.proofs.WellFormedLemmas.{levels-well-formed}
use Rattle.level_laws.proofs.levels.levels_stay_well_formed.Goals as goal

pub returns : goal.returns
returns c = levels-well-formed
