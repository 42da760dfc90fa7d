use Rattle.sparse_values.proofs.UniformLemmas.{same-values}
use Rattle.sparse_values.proofs.points.values_are_uniform.Goals as goal

pub returns : goal.returns
returns c = λ given. same-values given.tested.refinement given.tested.by given.scheme
