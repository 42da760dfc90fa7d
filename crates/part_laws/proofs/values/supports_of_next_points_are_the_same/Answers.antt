use Rattle.part_laws.proofs.ValueLemmas.{next-supports}
use Rattle.part_laws.proofs.values.supports_of_next_points_are_the_same.Goals as goal

pub returns : goal.returns
returns c = λ controls step shared. next-supports step.part step.over step.scheme step.point controls shared
