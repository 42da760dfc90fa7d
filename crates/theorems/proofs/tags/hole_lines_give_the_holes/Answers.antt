use Rattle.theorems.proofs.LevelTagLemmas.{line-hole}
use Rattle.theorems.proofs.tags.hole_lines_give_the_holes.Goals as goal

pub returns : goal.returns
returns c = λ text. line-hole text.lines text.least
