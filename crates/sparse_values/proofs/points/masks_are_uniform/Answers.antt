use Rattle.sparse_values.proofs.UniformLemmas.{same-masks}
use Rattle.sparse_values.proofs.points.masks_are_uniform.Goals as goal

pub returns : goal.returns
returns c = λ given. same-masks given.tested.refinement given.tested.by given.scheme
