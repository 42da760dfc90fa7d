use Rattle.level_topology.proofs.ChildLemmas.{law-corners, law-quad, law-points}
use Rattle.level_topology.proofs.child_laws.corners_come_from_their_places.Goals as goal

pub returns-clause-origins : goal.returns-clause-origins
returns-clause-origins c = λ pair. law-corners pair.parent pair.child.topology pair.child.origins pair.child.places pair.is_child

pub returns-clause-quad : goal.returns-clause-quad
returns-clause-quad c = λ pair. law-quad pair.parent pair.child.topology pair.child.origins pair.child.places pair.is_child

pub returns-clause-points : goal.returns-clause-points
returns-clause-points c = λ pair place f formed found. law-points pair.parent pair.child.topology pair.child.origins pair.child.places pair.is_child formed place f found
