use Rattle.part_laws.proofs.PartLemmas.{same-faces}
use Rattle.part_laws.proofs.parts.faces_at_whole_points_are_the_same.Goals as goal

pub returns : goal.returns
returns c = λ part at. same-faces part.name part.faces part.polygons part.whole part.is_part at.point at.is_there at.has_all
