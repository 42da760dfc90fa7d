use Rattle.mesh_laws.proofs.ChildOverLemmas.{levels-over-points}
use Rattle.mesh_laws.proofs.Laws.{manifold-levels}
use Rattle.mesh_laws.proofs.manifolds.levels_of_a_manifold.Goals as goal

pub returns-clause-over : goal.returns-clause-over
returns-clause-over c = levels-over-points

pub returns-clause-manifold : goal.returns-clause-manifold
returns-clause-manifold c = λ level k is. (manifold-levels level k is.over is.manifold).1
