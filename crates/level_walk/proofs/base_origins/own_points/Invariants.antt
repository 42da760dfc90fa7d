use Rattle.std.proofs.Common.{◌≡◌, map}
use Rattle.std.specs.List.{range_with_len}
use Rattle.level_walk.specs.Origins.{OnPoint}
use Rattle.level_walk.specs.OriginsView.{seen_origin}
use Rattle.level_walk.proofs.base_origins.own_points.Given as goal

-- the points so far
abbrev pub invariant-loop-v : goal.invariant-loop-v
invariant-loop-v l = map seen_origin l.points.items ≡ map OnPoint (range_with_len 0 l.v)
