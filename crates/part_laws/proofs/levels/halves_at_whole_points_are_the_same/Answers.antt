use Rattle.part_laws.proofs.LevelLemmas.{same-half}
use Rattle.part_laws.proofs.levels.halves_at_whole_points_are_the_same.Goals as goal

pub returns : goal.returns
returns c = λ part at along. same-half part.name part.faces part.level part.whole part.is_part at.point at.is_there at.has_all along.edge along.is_edge
