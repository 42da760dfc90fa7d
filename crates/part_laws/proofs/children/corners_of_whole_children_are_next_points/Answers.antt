use Rattle.part_laws.proofs.ChildLemmas.{child-points}
use Rattle.part_laws.proofs.children.corners_of_whole_children_are_next_points.Goals as goal

pub returns : goal.returns
returns c = λ part child n over there. child-points part over child n there
