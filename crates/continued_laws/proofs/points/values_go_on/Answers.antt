use Rattle.continued_laws.proofs.ScaledLemmas.{child-same, values-on}
use Rattle.continued_laws.proofs.points.values_go_on.Goals as goal

pub returns-clause-child : goal.returns-clause-child
returns-clause-child c = child-same

pub returns-clause-steps : goal.returns-clause-steps
returns-clause-steps c = λ going j.
    let first = going.first in values-on first.level first.scheme first.common going.common first.numbers going.numbers going.steps j going.same
