use Rattle.level_topology.proofs.LawLemmas.{edge-exists, edge-joins, edges-as-many}
use Rattle.level_topology.proofs.laws.face_edges_join_corners.Goals as goal

pub returns-clause-exists : goal.returns-clause-exists
returns-clause-exists c = edge-exists

pub returns-clause-joins : goal.returns-clause-joins
returns-clause-joins c = edge-joins

pub returns-clause-as_many : goal.returns-clause-as_many
returns-clause-as_many c = edges-as-many
