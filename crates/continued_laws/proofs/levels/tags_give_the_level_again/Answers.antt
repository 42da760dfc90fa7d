use Rattle.continued_laws.proofs.TagLemmas.{base-again}
use Rattle.continued_laws.proofs.levels.tags_give_the_level_again.Goals as goal

pub returns : goal.returns
returns c = base-again
