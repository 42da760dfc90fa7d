use Rattle.theorems.proofs.ContinuedLemmas.{levels-again, points-again, lines-again, texts-again}
use Rattle.theorems.proofs.continued.depths_add_up.Goals as goal

pub returns-clause-levels : goal.returns-clause-levels
returns-clause-levels c = levels-again

pub returns-clause-points : goal.returns-clause-points
returns-clause-points c = points-again

pub returns-clause-lines : goal.returns-clause-lines
returns-clause-lines c = lines-again

pub returns-clause-text : goal.returns-clause-text
returns-clause-text c = texts-again
