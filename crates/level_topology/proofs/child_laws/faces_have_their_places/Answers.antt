use Rattle.level_topology.proofs.ChildLemmas.{law-place, law-face}
use Rattle.level_topology.proofs.child_laws.faces_have_their_places.Goals as goal

pub returns-clause-place : goal.returns-clause-place
returns-clause-place c = λ pair place f found. (law-place pair.parent pair.child.topology pair.child.origins pair.child.places pair.is_child place f found).1

pub returns-clause-exists : goal.returns-clause-exists
returns-clause-exists c = λ pair place f found. (law-place pair.parent pair.child.topology pair.child.origins pair.child.places pair.is_child place f found).0

pub returns-clause-face : goal.returns-clause-face
returns-clause-face c = λ pair. law-face pair.parent pair.child.topology pair.child.origins pair.child.places pair.is_child
