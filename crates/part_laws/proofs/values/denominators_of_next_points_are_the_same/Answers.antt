use Rattle.part_laws.proofs.ValueLemmas.{next-denominators}
use Rattle.part_laws.proofs.values.denominators_of_next_points_are_the_same.Goals as goal

pub returns : goal.returns
returns c = λ step shared. next-denominators step.part step.over step.scheme step.point shared
