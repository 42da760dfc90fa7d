use Rattle.std.proofs.Common.{◌≡◌, map, take}
use Rattle.subdiv_model.specs.Edges.{edges_of}
use Rattle.level_walk.specs.ChildOrigins.{origin_of_child_edge}
use Rattle.level_walk.specs.OriginsView.{seen_origin, seen_origins}
use Rattle.level_walk.proofs.carried_origins.next_edges.Given as goal

-- the edges so far
abbrev pub invariant-loop-e : goal.invariant-loop-e
invariant-loop-e l = map seen_origin l.edges.items ≡ map (origin_of_child_edge l.child (seen_origins l.before)) (take l.e (edges_of l.child.topology.level.polygons))
