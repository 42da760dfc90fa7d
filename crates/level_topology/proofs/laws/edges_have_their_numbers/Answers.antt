use Rattle.level_topology.proofs.LawLemmas.{own-number, either-number}
use Rattle.level_topology.proofs.laws.edges_have_their_numbers.Goals as goal

pub returns-clause-own : goal.returns-clause-own
returns-clause-own c = own-number

pub returns-clause-either_direction : goal.returns-clause-either_direction
returns-clause-either_direction c = either-number
