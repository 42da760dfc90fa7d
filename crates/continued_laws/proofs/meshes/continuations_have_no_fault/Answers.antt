use Rattle.continued_laws.proofs.MeshLemmas.{second-fault, second-manifold, second-proper}
use Rattle.continued_laws.proofs.meshes.continuations_have_no_fault.Goals as goal

pub returns-clause-fault : goal.returns-clause-fault
returns-clause-fault c = second-fault

pub returns-clause-manifold : goal.returns-clause-manifold
returns-clause-manifold c = second-manifold

pub returns-clause-tags : goal.returns-clause-tags
returns-clause-tags c = second-proper
