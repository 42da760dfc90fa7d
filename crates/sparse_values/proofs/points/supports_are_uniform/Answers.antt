use Rattle.sparse_values.proofs.UniformLemmas.{same-supports}
use Rattle.sparse_values.proofs.points.supports_are_uniform.Goals as goal

pub returns : goal.returns
returns c = λ given. same-supports given.tested.refinement given.tested.by given.scheme
