use Rattle.std.proofs.Common.{◌≡◌, false, take}
use Rattle.std.specs.List.{list_any}
use Rattle.subdiv_model.specs.Edges.{is_boundary}
use Rattle.level_topology.specs.Topology.{edge_at}
use Rattle.level_topology.proofs.level.Level.is_at_boundary.Given as goal

-- none of the edges so far
abbrev pub invariant-loop-e : goal.invariant-loop-e
invariant-loop-e l = list_any (λ e. is_boundary l.self.level.polygons (edge_at l.self.level.polygons e)) (take l.e-index l.e-items) ≡ false
