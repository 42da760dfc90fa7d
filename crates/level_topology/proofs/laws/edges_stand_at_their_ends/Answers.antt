use Rattle.level_topology.proofs.LawLemmas.{edges-each, edges-all, edges-once}
use Rattle.level_topology.proofs.laws.edges_stand_at_their_ends.Goals as goal

pub returns-clause-each : goal.returns-clause-each
returns-clause-each c = λ v i. edges-each v.topology v.number i v.is_topology v.exists

pub returns-clause-all : goal.returns-clause-all
returns-clause-all c = λ v e. edges-all v.topology v.number e v.is_topology v.exists

pub returns-clause-once : goal.returns-clause-once
returns-clause-once c = λ v. edges-once v.topology v.number v.is_topology v.exists
