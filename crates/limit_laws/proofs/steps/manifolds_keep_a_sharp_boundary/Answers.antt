use Rattle.limit_laws.proofs.LevelLemmas.{well-levels}
use Rattle.limit_laws.proofs.steps.manifolds_keep_a_sharp_boundary.Goals as goal

pub returns : goal.returns
returns c = λ level k well. well-levels level well k
