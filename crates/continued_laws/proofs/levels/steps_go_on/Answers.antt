use Rattle.continued_laws.proofs.StepLemmas.{steps-on, sharp-on, sharp-mesh, no-fault-on}
use Rattle.continued_laws.proofs.levels.steps_go_on.Goals as goal

pub returns-clause-levels : goal.returns-clause-levels
returns-clause-levels c = steps-on

pub returns-clause-no_fault : goal.returns-clause-no_fault
returns-clause-no_fault c = no-fault-on

pub returns-clause-manifold : goal.returns-clause-manifold
returns-clause-manifold c = sharp-on

pub returns-clause-mesh : goal.returns-clause-mesh
returns-clause-mesh c = sharp-mesh
