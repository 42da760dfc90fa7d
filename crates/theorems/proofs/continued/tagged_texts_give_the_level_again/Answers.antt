use Rattle.theorems.proofs.ContinuedLemmas.{continuation, accepted, level-again}
use Rattle.theorems.proofs.continued.tagged_texts_give_the_level_again.Goals as goal

pub returns-clause-accepted : goal.returns-clause-accepted
returns-clause-accepted c = accepted

pub returns-clause-level : goal.returns-clause-level
returns-clause-level c = level-again

pub returns-clause-points : goal.returns-clause-points
returns-clause-points c = λ given. (continuation given).points
