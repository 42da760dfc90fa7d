use Rattle.level_topology.proofs.ChildLemmas.{law-origin, law-point}
use Rattle.level_topology.proofs.child_laws.points_have_their_origins.Goals as goal

pub returns-clause-origin : goal.returns-clause-origin
returns-clause-origin c = λ pair origin p found. (law-origin pair.parent pair.child.topology pair.child.origins pair.child.places pair.is_child origin p found).1

pub returns-clause-exists : goal.returns-clause-exists
returns-clause-exists c = λ pair origin p found. (law-origin pair.parent pair.child.topology pair.child.origins pair.child.places pair.is_child origin p found).0

pub returns-clause-point : goal.returns-clause-point
returns-clause-point c = λ pair. law-point pair.parent pair.child.topology pair.child.origins pair.child.places pair.is_child
