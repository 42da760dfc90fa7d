use Rattle.std.proofs.Common.{◌≡◌, nat_lt, length}
use Rattle.std.specs.List.{count_by, range_with_len}
use Rattle.subdiv_model.specs.Level.{faces_at}
use Rattle.level_walk.proofs.points.used_points.Given as goal

-- the points so far
abbrev pub invariant-loop-v : goal.invariant-loop-v
invariant-loop-v l = l.count ≡ count_by (λ v. nat_lt 0 (length (faces_at l.level.level v))) (range_with_len 0 l.v)
