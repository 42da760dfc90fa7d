use Rattle.subdiv_model.specs.Child.{refined_level}
use Rattle.limit_laws.proofs.LevelLemmas.{child-quads}
use Rattle.limit_laws.proofs.steps.next_levels_have_quads.Goals as goal

pub returns-clause-next : goal.returns-clause-next
returns-clause-next c = child-quads

pub returns-clause-later : goal.returns-clause-later
returns-clause-later c = λ level k. child-quads (refined_level level k)
