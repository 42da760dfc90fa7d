use Rattle.level_topology.proofs.LawLemmas.{edge-face, edge-all, edge-order, edge-few}
use Rattle.level_topology.proofs.laws.edges_have_one_face_or_two.Goals as goal

pub returns-clause-some : goal.returns-clause-some
returns-clause-some c = λ t e is inside. (edge-few t e is inside).0

pub returns-clause-few : goal.returns-clause-few
returns-clause-few c = λ t e is inside. (edge-few t e is inside).1

pub returns-clause-each : goal.returns-clause-each
returns-clause-each c = edge-face

pub returns-clause-order : goal.returns-clause-order
returns-clause-order c = edge-order

pub returns-clause-all : goal.returns-clause-all
returns-clause-all c = edge-all
