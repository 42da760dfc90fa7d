use Rattle.std.proofs.Common.{◌≡◌, ℕ, ◌<◌, IsTrue, get_or}
use Rattle.subdiv_model.specs.Edges.{has_end, is_boundary}
use Rattle.subdiv_model.specs.Sharpness.{Smooth, Infinite}
use Rattle.level_topology.specs.Topology.{edge_at}
use Rattle.level_tests.proofs.mask_tables.assert_sharp_boundary.Given as goal

-- the edges so far that end at the point have two faces or are sharp
abbrev pub invariant-loop-e : goal.invariant-loop-e
invariant-loop-e g l = (u : ℕ) → u < l.e-counter → IsTrue (has_end l.v (edge_at l.level.level.polygons u)) → IsTrue (is_boundary l.level.level.polygons (edge_at l.level.level.polygons u)) → get_or l.level.level.edge_sharpness u Smooth ≡ Infinite
