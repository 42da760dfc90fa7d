use Rattle.std.proofs.Common.{◌≡◌, false, take, get_or, []}
use Rattle.std.specs.List.{list_any}
use Rattle.subdiv_model.specs.Edges.{is_boundary}
use Rattle.level_topology.specs.Topology.{edge_at}
use Rattle.level_walk.proofs.points.is_at_boundary.Given as goal

-- none of the edges so far has one face
abbrev pub invariant-loop-e : goal.invariant-loop-e
invariant-loop-e l = list_any (λ e. is_boundary l.level.level.polygons (edge_at l.level.level.polygons e)) (take l.e-index (get_or l.level.edges_at l.v [])) ≡ false
