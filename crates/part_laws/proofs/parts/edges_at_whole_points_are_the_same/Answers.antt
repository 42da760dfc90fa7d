use Rattle.part_laws.proofs.PartLemmas.{same-edges, same-ends}
use Rattle.part_laws.proofs.parts.edges_at_whole_points_are_the_same.Goals as goal

pub returns-clause-edges : goal.returns-clause-edges
returns-clause-edges c = λ part at. same-edges part.name part.faces part.polygons part.whole part.is_part at.point at.is_there at.has_all

pub returns-clause-ends : goal.returns-clause-ends
returns-clause-ends c = λ part at. same-ends part.name part.faces part.polygons part.whole part.is_part at.point at.is_there at.has_all
