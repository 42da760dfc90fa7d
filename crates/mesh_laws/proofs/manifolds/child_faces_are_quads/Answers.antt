use Rattle.mesh_laws.proofs.Laws.{manifold-quads}
use Rattle.mesh_laws.proofs.manifolds.child_faces_are_quads.Goals as goal

pub returns-clause-four : goal.returns-clause-four
returns-clause-four c = λ points polygons is k d inside. (manifold-quads points polygons is.over is.manifold k d inside).0

pub returns-clause-distinct : goal.returns-clause-distinct
returns-clause-distinct c = λ points polygons is k d inside. (manifold-quads points polygons is.over is.manifold k d inside).1

pub returns-clause-points : goal.returns-clause-points
returns-clause-points c = λ points polygons is k d inside. (manifold-quads points polygons is.over is.manifold k d inside).2
