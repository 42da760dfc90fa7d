use Rattle.std.proofs.Common.{◌≡◌, false, take}
use Rattle.std.specs.List.{list_any}
use Rattle.subdiv_model.specs.Feature.{is_sharp_inside}
use Rattle.level_topology.specs.Topology.{edge_at}
use Rattle.level_topology.proofs.level.Level.is_at_crease.Given as goal

-- none of the edges so far
abbrev pub invariant-loop-e : goal.invariant-loop-e
invariant-loop-e l = list_any (λ e. is_sharp_inside l.self.level (edge_at l.self.level.polygons e)) (take l.e-index l.e-items) ≡ false
