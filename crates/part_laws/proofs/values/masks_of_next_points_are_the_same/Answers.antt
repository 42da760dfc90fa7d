use Rattle.part_laws.proofs.ValueLemmas.{next-masks}
use Rattle.part_laws.proofs.values.masks_of_next_points_are_the_same.Goals as goal

pub returns : goal.returns
returns c = λ step. next-masks step.part step.over step.scheme step.point
