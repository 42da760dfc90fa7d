use Rattle.sparse_laws.proofs.OverflowLemmas.{overflows-here, overflows-there}
use Rattle.sparse_laws.proofs.next.overflows_are_the_same.Goals as goal

pub returns-clause-uniform : goal.returns-clause-uniform
returns-clause-uniform c = λ tested. overflows-here tested.refinement tested.by

pub returns-clause-sparse : goal.returns-clause-sparse
returns-clause-sparse c = λ tested. overflows-there tested.refinement tested.by
