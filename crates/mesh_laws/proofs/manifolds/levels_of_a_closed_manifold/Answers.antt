use Rattle.mesh_laws.proofs.Laws.{levels-closed}
use Rattle.mesh_laws.proofs.manifolds.levels_of_a_closed_manifold.Goals as goal

pub returns-clause-over : goal.returns-clause-over
returns-clause-over c = λ level k is. (levels-closed level k is.over is.manifold is.closed).0

pub returns-clause-closed : goal.returns-clause-closed
returns-clause-closed c = λ level k is. (levels-closed level k is.over is.manifold is.closed).1

pub returns-clause-both_ways : goal.returns-clause-both_ways
returns-clause-both_ways c = λ level k is. (levels-closed level k is.over is.manifold is.closed).2
