use Rattle.mesh_laws.proofs.FaultLemmas.{fault-decides}
use Rattle.mesh_laws.proofs.manifolds.no_fault_exactly_at_a_manifold.Goals as goal

pub returns : goal.returns
returns c = fault-decides
