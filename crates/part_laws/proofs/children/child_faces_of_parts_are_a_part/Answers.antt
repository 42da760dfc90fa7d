use Rattle.part_laws.proofs.ChildLemmas.{child-part, child-places}
use Rattle.part_laws.proofs.children.child_faces_of_parts_are_a_part.Goals as goal

pub returns-clause-part : goal.returns-clause-part
returns-clause-part c = λ part over. child-part part.name part.faces part.level part.whole part.is_part.polygons over.whole over.level

pub returns-clause-places : goal.returns-clause-places
returns-clause-places c = λ part corner. child-places part.name part.faces part.level part.whole part.is_part.polygons corner.face corner.place corner.is_face corner.is_corner
