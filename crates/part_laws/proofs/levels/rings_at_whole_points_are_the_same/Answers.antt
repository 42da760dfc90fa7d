use Rattle.part_laws.proofs.LevelLemmas.{same-child-ring, same-ring}
use Rattle.part_laws.proofs.levels.rings_at_whole_points_are_the_same.Goals as goal

pub returns-clause-now : goal.returns-clause-now
returns-clause-now c = λ part at. same-ring part.name part.faces part.level part.whole part.is_part at.point at.is_there at.has_all

pub returns-clause-next : goal.returns-clause-next
returns-clause-next c = λ part at. same-child-ring part.name part.faces part.level part.whole part.is_part at.point at.is_there at.has_all
