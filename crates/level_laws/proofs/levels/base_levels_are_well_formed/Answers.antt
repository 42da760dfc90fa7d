use Rattle.level_laws.proofs.BaseLemmas.{base-well-formed}
use Rattle.level_laws.proofs.levels.base_levels_are_well_formed.Goals as goal

pub returns : goal.returns
returns c = λ mesh over tags. base-well-formed mesh over tags.creases tags.corner_tags
