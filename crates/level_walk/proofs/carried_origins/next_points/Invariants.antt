use Rattle.std.proofs.Common.{◌≡◌, map, take}
use Rattle.level_walk.specs.Origins.{origin_of_part}
use Rattle.level_walk.specs.OriginsView.{seen_origin, seen_origins}
use Rattle.level_walk.proofs.carried_origins.next_points.Given as goal

-- the points so far
abbrev pub invariant-loop-p : goal.invariant-loop-p
invariant-loop-p l = map seen_origin l.points.items ≡ map (origin_of_part (seen_origins l.before)) (take l.p l.child.origins)
