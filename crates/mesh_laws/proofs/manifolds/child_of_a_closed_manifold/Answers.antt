use Rattle.mesh_laws.proofs.Laws.{manifold-child}
use Rattle.mesh_laws.proofs.manifolds.child_of_a_closed_manifold.Goals as goal

pub returns-clause-closed : goal.returns-clause-closed
returns-clause-closed c = λ points polygons is. (manifold-child points polygons is.over is.manifold is.closed).1

pub returns-clause-both_ways : goal.returns-clause-both_ways
returns-clause-both_ways c = λ points polygons is. (manifold-child points polygons is.over is.manifold is.closed).0
