use Rattle.mesh_laws.proofs.Laws.{named-once, listed-as-side}
use Rattle.mesh_laws.proofs.manifolds.edges_are_listed_once.Goals as goal

pub returns-clause-once : goal.returns-clause-once
returns-clause-once c = named-once

pub returns-clause-as_it_goes : goal.returns-clause-as_it_goes
returns-clause-as_it_goes c = listed-as-side
