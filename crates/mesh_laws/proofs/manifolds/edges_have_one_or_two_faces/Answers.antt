use Rattle.mesh_laws.proofs.Laws.{manifold-edges}
use Rattle.mesh_laws.proofs.manifolds.edges_have_one_or_two_faces.Goals as goal

pub returns : goal.returns
returns c = manifold-edges
