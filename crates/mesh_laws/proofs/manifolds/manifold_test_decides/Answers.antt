use Rattle.mesh_laws.proofs.WalkLemmas.{manifold-decides}
use Rattle.mesh_laws.proofs.manifolds.manifold_test_decides.Goals as goal

pub returns : goal.returns
returns c = manifold-decides
