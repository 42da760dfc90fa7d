use Rattle.level_laws.proofs.FaceLemmas.{child-stands, child-hole}
use Rattle.level_laws.proofs.levels.child_faces_are_holes_as_their_parents.Goals as goal

pub returns-clause-place : goal.returns-clause-place
returns-clause-place c = λ points faces corner. child-stands points faces corner.face corner.place corner.is_face corner.is_corner

pub returns-clause-hole : goal.returns-clause-hole
returns-clause-hole c = λ level corner. child-hole level corner.face corner.place corner.is_face corner.is_corner
