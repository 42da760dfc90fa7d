use Rattle.std.proofs.Common.{get_or}
use Rattle.subdiv_model.specs.Edges.{edges_of}
use Rattle.level_laws.proofs.HalfLemmas.{inside-smooth}
use Rattle.level_laws.proofs.levels.edges_inside_faces_are_smooth.Goals as goal

pub returns-clause-from_face_point : goal.returns-clause-from_face_point
returns-clause-from_face_point c = λ level face is k d h. (inside-smooth level is.over face (get_or (edges_of level.polygons) k d) is.is_face).0

pub returns-clause-to_face_point : goal.returns-clause-to_face_point
returns-clause-to_face_point c = λ level face is k d h. (inside-smooth level is.over face (get_or (edges_of level.polygons) k d) is.is_face).1
