use Rattle.part_laws.proofs.LevelLemmas.{same-chaikin, same-transition}
use Rattle.part_laws.proofs.levels.overflows_at_whole_points_are_the_same.Goals as goal

pub returns-clause-chaikin : goal.returns-clause-chaikin
returns-clause-chaikin c = λ part at. same-chaikin part.name part.faces part.level part.whole part.is_part at.point at.is_there at.has_all

pub returns-clause-transition : goal.returns-clause-transition
returns-clause-transition c = λ part at scheme. same-transition part.name part.faces part.level part.whole part.is_part at.point at.is_there at.has_all scheme
