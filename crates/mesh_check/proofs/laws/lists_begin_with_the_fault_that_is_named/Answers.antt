use Rattle.mesh_check.proofs.ListedLemmas.{first-listed, none-first}
use Rattle.mesh_check.proofs.laws.lists_begin_with_the_fault_that_is_named.Goals as goal

pub returns-clause-first : goal.returns-clause-first
returns-clause-first c = first-listed

pub returns-clause-none : goal.returns-clause-none
returns-clause-none c = none-first
