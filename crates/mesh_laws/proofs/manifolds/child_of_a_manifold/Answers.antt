use Rattle.mesh_laws.proofs.Laws.{next-manifold}
use Rattle.mesh_laws.proofs.manifolds.child_of_a_manifold.Goals as goal

pub returns : goal.returns
returns c = λ points polygons is. next-manifold points polygons is.over is.manifold
