use Rattle.part_laws.proofs.LevelLemmas.{same-child-rule, same-interior, same-rule, same-weight}
use Rattle.part_laws.proofs.levels.rules_at_whole_points_are_the_same.Goals as goal

pub returns-clause-now : goal.returns-clause-now
returns-clause-now c = λ part at. same-rule part.name part.faces part.level part.whole part.is_part at.point at.is_there at.has_all

pub returns-clause-next : goal.returns-clause-next
returns-clause-next c = λ part at. same-child-rule part.name part.faces part.level part.whole part.is_part at.point at.is_there at.has_all

pub returns-clause-weight : goal.returns-clause-weight
returns-clause-weight c = λ part at. same-weight part.name part.faces part.level part.whole part.is_part at.point at.is_there at.has_all

pub returns-clause-interior : goal.returns-clause-interior
returns-clause-interior c = λ part at. same-interior part.name part.faces part.level part.whole part.is_part at.point at.is_there at.has_all
