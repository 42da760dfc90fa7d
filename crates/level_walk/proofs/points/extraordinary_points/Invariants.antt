use Rattle.std.proofs.Common.{◌≡◌}
use Rattle.std.specs.List.{count_by, range_with_len}
use Rattle.subdiv_model.specs.LevelText.{is_extraordinary}
use Rattle.level_walk.proofs.points.extraordinary_points.Given as goal

-- the points so far
abbrev pub invariant-loop-v : goal.invariant-loop-v
invariant-loop-v l = l.count ≡ count_by (is_extraordinary l.level.level) (range_with_len 0 l.v)
