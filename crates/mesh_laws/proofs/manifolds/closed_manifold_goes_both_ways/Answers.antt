use Rattle.mesh_laws.proofs.Laws.{manifold-both}
use Rattle.mesh_laws.proofs.manifolds.closed_manifold_goes_both_ways.Goals as goal

pub returns : goal.returns
returns c = manifold-both
