use Rattle.level_topology.proofs.LawLemmas.{faces-each, faces-all, faces-once}
use Rattle.level_topology.proofs.laws.faces_stand_at_their_corners.Goals as goal

pub returns-clause-each : goal.returns-clause-each
returns-clause-each c = λ v i. faces-each v.topology v.number i v.is_topology v.exists

pub returns-clause-all : goal.returns-clause-all
returns-clause-all c = λ v f. faces-all v.topology v.number f v.is_topology v.exists

pub returns-clause-once : goal.returns-clause-once
returns-clause-once c = λ v. faces-once v.topology v.number v.is_topology v.exists
