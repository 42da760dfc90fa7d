use Rattle.sparse_values.proofs.UniformLemmas.{weighs-here, weighs-there}
use Rattle.sparse_values.proofs.points.transitions_are_uniform.Goals as goal

pub returns-clause-uniform : goal.returns-clause-uniform
returns-clause-uniform c = λ given. weighs-here given.tested.refinement given.tested.by given.scheme

pub returns-clause-sparse : goal.returns-clause-sparse
returns-clause-sparse c = λ given. weighs-there given.tested.refinement given.tested.by given.scheme
