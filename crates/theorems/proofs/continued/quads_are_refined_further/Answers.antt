use Rattle.theorems.proofs.ContinuedExampleLemmas.{quads-further}
use Rattle.theorems.proofs.continued.quads_are_refined_further.Goals as goal

pub returns : goal.returns
returns c = quads-further
