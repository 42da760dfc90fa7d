use Rattle.far_text.proofs.LevelsLemmas.{lines-of-levels}
use Rattle.far_text.proofs.laws.lines_of_the_levels.Goals as goal

pub returns : goal.returns
returns c = lines-of-levels
