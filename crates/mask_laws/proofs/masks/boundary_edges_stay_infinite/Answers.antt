use Rattle.mask_laws.proofs.BoundaryLemmas.{boundary-base, closed-sharp}
use Rattle.mask_laws.proofs.MeanLemmas.{child-sharp, boundary-meshes}
use Rattle.mask_laws.proofs.masks.boundary_edges_stay_infinite.Goals as goal

pub returns-clause-mesh : goal.returns-clause-mesh
returns-clause-mesh c = boundary-base

pub returns-clause-closed : goal.returns-clause-closed
returns-clause-closed c = closed-sharp

pub returns-clause-child : goal.returns-clause-child
returns-clause-child c = λ level is. child-sharp level is.over is.manifold

pub returns-clause-edges : goal.returns-clause-edges
returns-clause-edges c = λ mesh k edge is. boundary-meshes mesh k edge is.manifold is.over_points
