use Rattle.std.proofs.Common.{◌≡◌, map}
use Rattle.std.specs.List.{range_with_len}
use Rattle.level_walk.specs.Origins.{OnEdge}
use Rattle.level_walk.specs.OriginsView.{seen_origin}
use Rattle.level_walk.proofs.base_origins.own_edges.Given as goal

-- the edges so far
abbrev pub invariant-loop-e : goal.invariant-loop-e
invariant-loop-e l = map seen_origin l.edges.items ≡ map OnEdge (range_with_len 0 l.e)
