use Rattle.part_laws.proofs.NameLemmas.{name-old, name-face, name-edge}
use Rattle.part_laws.proofs.children.new_points_have_names_of_new_points.Goals as goal

pub returns-clause-old : goal.returns-clause-old
returns-clause-old c = λ part p below. name-old part.name part.faces part.level part.whole part.is_part.polygons p below

pub returns-clause-of_faces : goal.returns-clause-of_faces
returns-clause-of_faces c = λ part k inside. name-face part.name part.faces part.level part.whole part.is_part.polygons k inside

pub returns-clause-of_edges : goal.returns-clause-of_edges
returns-clause-of_edges c = λ part along. name-edge part.name part.faces part.level part.whole part.is_part.polygons along.edge along.is_edge
