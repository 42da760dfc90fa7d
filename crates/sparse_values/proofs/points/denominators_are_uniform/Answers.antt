use Rattle.sparse_values.proofs.UniformLemmas.{same-denominators}
use Rattle.sparse_values.proofs.points.denominators_are_uniform.Goals as goal

pub returns : goal.returns
returns c = λ given. same-denominators given.tested.refinement given.tested.by given.scheme
