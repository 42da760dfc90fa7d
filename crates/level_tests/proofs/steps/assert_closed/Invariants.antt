use Rattle.std.proofs.Common.{◌≡◌, ℕ, ◌<◌, length}
use Rattle.subdiv_model.specs.Edges.{faces_of_edge}
use Rattle.level_topology.specs.Topology.{edge_at}
use Rattle.level_tests.proofs.steps.assert_closed.Given as goal

-- the edges so far have two faces
abbrev pub invariant-loop-e : goal.invariant-loop-e
invariant-loop-e g l = (u : ℕ) → u < l.e-counter → length (faces_of_edge l.level.level.polygons (edge_at l.level.level.polygons u)) ≡ 2
