use Rattle.std.proofs.Common.{◌≡◌, take}
use Rattle.std.specs.List.{count_by}
use Rattle.subdiv_model.specs.Feature.{is_sharp_inside}
use Rattle.level_topology.specs.Topology.{edge_at}
use Rattle.level_topology.proofs.level.Level.sharp_edges.Given as goal

-- the edges so far
abbrev pub invariant-loop-e : goal.invariant-loop-e
invariant-loop-e l = l.count ≡ count_by (λ e. is_sharp_inside l.self.level (edge_at l.self.level.polygons e)) (take l.e-index l.e-items)
